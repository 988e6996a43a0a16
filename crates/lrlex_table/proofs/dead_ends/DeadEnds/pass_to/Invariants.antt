use Rattle.std.proofs.Common.{◌≡◌, ◌+◌, ◌-◌, ◌<◌}
use Rattle.lrlex_table.specs.Chain.{begin_of}
use Rattle.lrlex_table.proofs.dead_ends.DeadEnds.pass_to.Given as goal

abbrev pub invariant-passed : goal.invariant-passed
invariant-passed l = l.at < l.self.ahead.count → l.begin ≡ l.self.ahead.from + begin_of 0 l.self.ahead.marks.items l.at

abbrev pub decreases-passed : goal.decreases-passed
decreases-passed l = l.most - l.at
