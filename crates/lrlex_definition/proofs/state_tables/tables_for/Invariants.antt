-- The tables of the lists so far.
use Rattle.std.proofs.Common.{◌≡◌, ◌+◌, ◌≤◌, map, length}
use Rattle.lrlex_table.specs.Tables.{AreCached}
use Rattle.lrlex_table.specs.Rows.{cached_rows, rows_held}
use Rattle.lrlex_rules.specs.RuleParts.{as_rule}
use Rattle.lrlex_definition.specs.StateTables.{AreServed, pattern_in}
use Rattle.lrlex_definition.proofs.state_tables.tables_for.Given as goal

abbrev pub invariant-lists : goal.invariant-lists
invariant-lists g l = record {
  made : length l.tables.items ≡ l.index;
  served : AreServed l.rules (map (λ v. v.items) l.lists) l.tables.items;
  paid : rows_held l.tables.items + cached_rows l.singles.items + l.budget.rows ≤ l.fn.budget.rows;
  single : AreCached (pattern_in (map (as_rule (λ _. 0)) l.rules)) l.singles.items;
}
