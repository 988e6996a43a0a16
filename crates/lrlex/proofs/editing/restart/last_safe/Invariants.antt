use Rattle.std.proofs.Common.{ℕ, ◌<◌, ◌≤◌, length}
use Rattle.lrlex.specs.Lookahead.{IsSafe}
use Rattle.lrlex.proofs.editing.restart.last_safe.Given as goal

abbrev pub invariant-back : goal.invariant-back
invariant-back l =
    (l.index ≤ length l.boundaries) × ((j : ℕ) → l.index ≤ j → j < length l.boundaries → ¬ (IsSafe l.boundaries l.ahead l.place j))

abbrev pub decreases-back : goal.decreases-back
decreases-back l = l.index
