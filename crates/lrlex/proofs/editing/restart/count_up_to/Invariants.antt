use Rattle.std.proofs.Common.{ℕ, ◌-◌, ◌<◌, ◌≤◌, length}
use Rattle.lrlex_boundaries.specs.Boundaries.{boundary_at}
use Rattle.lrlex.proofs.editing.restart.count_up_to.Given as goal

abbrev pub invariant-halves : goal.invariant-halves
invariant-halves l =
    (l.from ≤ l.to) × (l.to ≤ length l.boundaries) × ((j : ℕ) → j < l.from → (boundary_at l.boundaries j).place ≤ l.place)
    × ((j : ℕ) → l.to ≤ j → j < length l.boundaries → l.place < (boundary_at l.boundaries j).place)

abbrev pub decreases-halves : goal.decreases-halves
decreases-halves l = l.to - l.from
