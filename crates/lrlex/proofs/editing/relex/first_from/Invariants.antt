use Rattle.std.proofs.Common.{ℕ, ◌-◌, ◌<◌, ◌≤◌, length}
use Rattle.lrlex_boundaries.specs.Boundaries.{boundary_at}
use Rattle.lrlex.proofs.editing.relex.first_from.Given as goal

abbrev pub invariant-walk : goal.invariant-walk
invariant-walk l = record {
  from : l.cursor ≤ l.next;
  within : l.next ≤ length l.boundaries;
  skipped : (j : ℕ) → l.cursor ≤ j → j < l.next → (boundary_at l.boundaries j).place < l.place;
}

abbrev pub decreases-walk : goal.decreases-walk
decreases-walk l = length l.boundaries - l.next
