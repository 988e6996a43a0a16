-- The places so far are marked.
use Rattle.std.proofs.Common.{◌≡◌, ◌||◌, ℕ, ◌<◌, false, length, slice_index_or, take}
use Rattle.lrlex_table.specs.Tables.{is_among}
use Rattle.lrlex_definition.proofs.somewhere.mark_all.Given as goal

abbrev pub invariant-places : goal.invariant-places
invariant-places l =
    (length l.marks ≡ length l.fn.marks)
    × ((k : ℕ) → k < length l.fn.marks → slice_index_or l.marks k false ≡ (slice_index_or l.fn.marks k false || is_among (take l.at l.places) k))
