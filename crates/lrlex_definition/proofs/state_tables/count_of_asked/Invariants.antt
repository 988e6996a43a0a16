use Rattle.std.proofs.Common.{◌≡◌, ◌<◌, ◌^◌, take}
use Rattle.lrlex_definition.specs.StateTables.{count_of_asked}
use Rattle.lrlex_definition.proofs.state_tables.count_of_asked.Given as goal

abbrev pub invariant-lists : goal.invariant-lists
invariant-lists l =
    count_of_asked l.lists < 2 ^ 64 → l.asked ≡ count_of_asked (take l.of_list-index l.lists)
