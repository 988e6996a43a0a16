use Rattle.std.proofs.Common.{◌+◌, ◌≤◌}
use Rattle.lrlex_table.specs.Group.{IsGroupBelow}
use Rattle.lrlex_table.proofs.group.GroupBuilder.fill_all.Given as goal

abbrev pub invariant-rows : goal.invariant-rows
invariant-rows l =
    IsGroupBelow l.cache l.places l.self l.row
    × (l.row + l.budget.rows ≤ l.fn.budget.rows)
