use Rattle.std.proofs.Common.{◌≡◌, ◌<◌, ◌^◌, take}
use Rattle.lrlex_definition.specs.StateTables.{count_of_tables}
use Rattle.lrlex_definition.proofs.state_tables.count_of_tables.Given as goal

abbrev pub invariant-lists : goal.invariant-lists
invariant-lists l =
    count_of_tables l.lists < 2 ^ 64 → l.tables ≡ count_of_tables (take l.of_list-index l.lists)
