use Rattle.std.proofs.Common.{◌≡◌, take, None}
use Rattle.lrlex_table.specs.Group.{wins_in, first_among}
use Rattle.lrlex_table.proofs.group.first_among.Given as goal

abbrev pub invariant-live_rows : goal.invariant-live_rows
invariant-live_rows l =
    first_among (wins_in l.cache l.places) (take l.at l.live_rows) ≡ None
