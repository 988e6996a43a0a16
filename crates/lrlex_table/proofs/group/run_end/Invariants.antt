use Rattle.std.proofs.Common.{◌≡◌, ◌<◌, ◌≤◌, ℕ, take}
use Rattle.lrlex_table.specs.Group.{nexts_in, step_all}
use Rattle.lrlex_table.proofs.group.run_end.Given as goal

abbrev pub invariant-live_rows : goal.invariant-live_rows
invariant-live_rows l =
    (l.byte < l.end)
    × (l.end ≤ 256)
    × ((c : ℕ) → l.byte ≤ c → c < l.end →
    step_all (nexts_in l.cache l.places) (take l.at l.live_rows) c ≡ step_all (nexts_in l.cache l.places) (take l.at l.live_rows) l.byte)
