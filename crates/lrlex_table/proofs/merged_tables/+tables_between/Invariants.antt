use Rattle.std.proofs.Common.{◌-◌}
use Rattle.lrlex_table.proofs.merged_tables.+tables_between.Given as goal

abbrev pub decreases-tables_between : goal.decreases-tables_between
decreases-tables_between l =
    l.to - l.from
