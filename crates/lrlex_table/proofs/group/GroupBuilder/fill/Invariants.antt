use Rattle.std.proofs.Common.{◌≤◌, ◌-◌}
use Rattle.lrlex_table.specs.Group.{live_rows_of, AreTabled, IsGroupingOf}
use Rattle.lrlex_table.proofs.group.GroupBuilder.fill.Given as goal

abbrev pub invariant-bytes : goal.invariant-bytes
invariant-bytes l =
    AreTabled l.cache l.places
    × IsGroupingOf l.cache l.places (live_rows_of l.self.rows) l.self.next.items l.self.wins.items l.row l.byte l.live_rows.items
    × (l.byte ≤ 256)

abbrev pub decreases-bytes : goal.decreases-bytes
decreases-bytes l =
    256 - l.byte
