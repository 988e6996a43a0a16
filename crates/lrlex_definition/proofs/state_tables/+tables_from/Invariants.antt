use Rattle.std.proofs.Common.{◌-◌}
use Rattle.lrlex_definition.proofs.state_tables.+tables_from.Given as goal

abbrev pub decreases-tables_from : goal.decreases-tables_from
decreases-tables_from g l =
    l.to - l.from
