use Rattle.std.proofs.Common.{◌+◌, ◌≤◌}
use Rattle.lrlex_table.specs.ProductBuilder.{IsProductBelow}
use Rattle.lrlex_table.proofs.product.ProductBuilder.fill_all.Given as goal

abbrev pub invariant-rows : goal.invariant-rows
invariant-rows l =
    IsProductBelow l.a l.b l.shift l.self l.row
    × (l.row + l.budget.rows ≤ l.fn.budget.rows)
