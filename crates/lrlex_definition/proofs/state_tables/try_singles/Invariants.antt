use Rattle.std.proofs.Common.{◌+◌, ◌≤◌, map}
use Rattle.lrlex_table.specs.Tables.{AreCached}
use Rattle.lrlex_table.specs.Rows.{cached_rows}
use Rattle.lrlex_rules.specs.RuleParts.{as_rule}
use Rattle.lrlex_definition.specs.StateTables.{pattern_in}
use Rattle.lrlex_definition.proofs.state_tables.try_singles.Given as goal

abbrev pub invariant-places : goal.invariant-places
invariant-places g l =
    (AreCached (pattern_in (map (as_rule (λ _. 0)) l.rules)) l.fn.singles → AreCached (pattern_in (map (as_rule (λ _. 0)) l.rules)) l.singles)
    × (cached_rows l.singles + l.budget.rows ≤ cached_rows l.fn.singles + l.fn.budget.rows)
