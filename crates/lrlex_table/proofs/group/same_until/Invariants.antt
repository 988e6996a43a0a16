use Rattle.std.proofs.Common.{◌≡◌, ℕ, ◌+◌, ◌<◌, ◌≤◌, slice_index_or}
use Rattle.lrlex_table.proofs.group.same_until.Given as goal

abbrev pub invariant-cells : goal.invariant-cells
invariant-cells l =
    (l.byte < l.end)
    × ((c : ℕ) → l.byte ≤ c → c < l.end → slice_index_or l.table.cells.items (l.first + c) 0 ≡ l.cell)
