use Rattle.std.proofs.Common.{◌≡◌, ◌<◌, ◌^◌, take}
use Rattle.lrlex_table.specs.Linear.{count_of_rows}
use Rattle.lrlex_definition.proofs.state_tables.count_of_rows.Given as goal

abbrev pub invariant-lists : goal.invariant-lists
invariant-lists l =
    count_of_rows l.lists < 2 ^ 64 → l.rows ≡ count_of_rows (take l.of_list-index l.lists)
