use Rattle.std.proofs.Common.{ℕ, ◌<◌, ◌≤◌, length}
use Rattle.std.specs.Prelude.{slice_get}
use Rattle.lrlex_boundaries.specs.Boundaries.{boundary_at}
use Rattle.lrlex_boundaries.specs.Entering.{Keeps}
use Rattle.lrlex_boundaries.proofs.entering.last_lacking.Given as goal

abbrev pub invariant-back : goal.invariant-back
invariant-back l =
    (l.index ≤ length l.boundaries) × ((j : ℕ) → l.index ≤ j → j < length l.boundaries → Keeps l.top (slice_get (boundary_at l.boundaries j).entries l.at))

abbrev pub decreases-back : goal.decreases-back
decreases-back l = l.index
