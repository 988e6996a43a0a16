-- The rules at the indices so far are marked.
use Rattle.std.proofs.Common.{◌≡◌, ◌||◌, ℕ, ◌<◌, false, length, slice_index_or, take}
use Rattle.std.specs.List.{list_any}
use Rattle.lrlex_definition.specs.Somewhere.{stands_at}
use Rattle.lrlex_definition.proofs.somewhere.mark_at.Given as goal

abbrev pub invariant-indices : goal.invariant-indices
invariant-indices l =
    (length l.marks ≡ length l.fn.marks)
    × ((k : ℕ) → k < length l.fn.marks → slice_index_or l.marks k false ≡ (slice_index_or l.fn.marks k false || list_any (stands_at l.places k) (take l.at l.indices)))
