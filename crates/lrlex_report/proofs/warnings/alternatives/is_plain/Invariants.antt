-- What is left has such an obstacle where the pattern has one, and the bytes before it have opened no more classes than they are.
use Rattle.std.proofs.Common.{◌≡◌, ◌+◌, ◌≤◌, length}
use Rattle.lrlex_report.specs.Alternatives.{is_obstacle}
use Rattle.lrlex_report.specs.PatternClasses.{at_beginning, from_first}
use Rattle.lrlex_report.proofs.warnings.alternatives.is_plain.Given as goal

abbrev pub invariant-loop-rest : goal.invariant-loop-rest
invariant-loop-rest l = record {
  first : from_first is_obstacle l.context l.rest ≡ from_first is_obstacle at_beginning l.pattern;
  room : l.context.classes + length l.rest ≤ length l.pattern;
}

-- how much is left
abbrev pub decreases-loop-rest : goal.decreases-loop-rest
decreases-loop-rest l = length l.rest
