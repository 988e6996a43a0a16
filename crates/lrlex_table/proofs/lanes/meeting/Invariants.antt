use Rattle.std.proofs.Common.{◌+◌, ◌-◌, ◌≤◌}
use Rattle.lrlex_table.proofs.lanes.meeting.Given as goal

abbrev pub invariant-back : goal.invariant-back
invariant-back l = l.at ≤ l.count

abbrev pub decreases-back : goal.decreases-back
decreases-back l = l.at

abbrev pub invariant-marks : goal.invariant-marks
invariant-marks l = l.then ≤ l.others

abbrev pub decreases-marks : goal.decreases-marks
decreases-marks l = (l.count + 1 - l.at) + (l.others - l.then)
