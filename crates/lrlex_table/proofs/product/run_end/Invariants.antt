use Rattle.std.proofs.Common.{◌≡◌, ℕ, ◌+◌, ◌<◌, ◌≤◌, slice_index_or}
use Rattle.lrlex_table.proofs.product.run_end.Given as goal

abbrev pub invariant-cells : goal.invariant-cells
invariant-cells l =
    (l.byte < l.end)
    × ((c : ℕ) → l.byte ≤ c → c < l.end → slice_index_or l.a.cells.items (l.x + c) 0 ≡ l.to)
    × ((c : ℕ) → l.byte ≤ c → c < l.end → slice_index_or l.b.cells.items (l.y + c) 0 ≡ l.also)
