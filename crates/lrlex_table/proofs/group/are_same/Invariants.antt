use Rattle.std.proofs.Common.{◌≡◌, take}
use Rattle.lrlex_table.proofs.group.are_same.Given as goal

abbrev pub invariant-live_rows : goal.invariant-live_rows
invariant-live_rows l =
    take l.at l.a ≡ take l.at l.b
