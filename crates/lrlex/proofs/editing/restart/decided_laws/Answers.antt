use Rattle.lrlex.proofs.ResumeLemmas.{alike-edited}
use Rattle.lrlex.proofs.DecidedLemmas.{decided_whole, decided_more, decided_kept, decided_safe, decided_moved}
use Rattle.lrlex.proofs.editing.restart.decided_laws.Goals as goal

pub returns : goal.returns
returns c = record {
  whole = decided_whole;
  more = decided_more;
  kept = λ d old new put low high found bounds k far initial is le gives h within few decided.
      decided_kept d old new low found bounds h is (alike-edited old new put low high le gives) initial k far within few decided;
  safe = decided_safe;
  moved = decided_moved;
}
