use Rattle.lrlex.proofs.ResumeLemmas.{alike-edited}
use Rattle.lrlex.proofs.LookaheadLemmas.{looks_start, all_step, looks_more, looks_kept}
use Rattle.lrlex.proofs.editing.restart.ahead_laws.Goals as goal

pub returns : goal.returns
returns c = record {
  start = looks_start;
  step = all_step;
  more = looks_more;
  kept = λ d old new put low high found bounds ahead k initial is le gives h within looks safe.
      looks_kept d old new low found bounds h is (alike-edited old new put low high le gives) initial ahead k within looks safe;
}
