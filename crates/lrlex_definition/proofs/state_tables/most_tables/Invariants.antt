use Rattle.std.proofs.Common.{◌≡◌, take}
use Rattle.lrlex_definition.specs.StateTables.{most_tables}
use Rattle.lrlex_definition.proofs.state_tables.most_tables.Given as goal

abbrev pub invariant-lists : goal.invariant-lists
invariant-lists l = l.most ≡ most_tables (take l.of_list-index l.lists)
