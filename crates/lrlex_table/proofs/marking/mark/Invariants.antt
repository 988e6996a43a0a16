use Rattle.std.proofs.Common.{◌≡◌, ℕ, ◌<◌, ◌≤◌, length, slice_index_or}
use Rattle.lrlex_table.specs.Cell.{row_in, is_marked, wins_at}
use Rattle.lrlex_table.proofs.marking.mark.Given as goal

abbrev pub invariant-cells : goal.invariant-cells
invariant-cells l =
    (length l.cells ≡ length l.fn.cells)
    × ((i : ℕ) → l.at ≤ i → slice_index_or l.cells i 0 ≡ slice_index_or l.fn.cells i 0)
    × ((i : ℕ) → i < l.at → row_in (slice_index_or l.cells i 0) ≡ slice_index_or l.fn.cells i 0)
    × ((i : ℕ) → i < l.at → is_marked (slice_index_or l.cells i 0) ≡ wins_at l.wins (slice_index_or l.fn.cells i 0))
