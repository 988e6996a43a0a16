use Rattle.std.proofs.Common.{◌≡◌, take}
use Rattle.lrlex_table.specs.Group.{nexts_in, start_in, step_all, ArePastStart}
use Rattle.lrlex_table.proofs.group.step_all.Given as goal

abbrev pub invariant-live_rows : goal.invariant-live_rows
invariant-live_rows l =
    (l.next.items ≡ step_all (nexts_in l.cache l.places) (take l.at l.live_rows) l.byte)
    × ArePastStart (start_in l.cache l.places) l.next.items
