use Rattle.lrlex.proofs.ResumeLemmas.{alike-edited, goes_on_from, begin_alike}
use Rattle.lrlex.proofs.editing.restart.resume_laws.Goals as goal

pub returns : goal.returns
returns c = record {
  goes_on = λ d old new put low high found bounds k initial is le gives h lt decided.
      goes_on_from d old new low found bounds h is (alike-edited old new put low high le gives) initial k lt decided;
  same = λ d old new put low high found other_found bounds other_bounds k initial is le gives h other lt decided.
      begin_alike d old new low found bounds h is (alike-edited old new put low high le gives) initial other_found other_bounds other k lt decided;
}
