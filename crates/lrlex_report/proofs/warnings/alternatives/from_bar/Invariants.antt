-- What is left has its first `|` where the pattern has it, and the bytes before it have opened no more classes than they are.
use Rattle.std.proofs.Common.{◌≡◌, ◌+◌, ◌≤◌, length}
use Rattle.lrlex_report.specs.Alternatives.{is_bar}
use Rattle.lrlex_report.specs.PatternClasses.{at_beginning, from_first}
use Rattle.lrlex_report.proofs.warnings.alternatives.from_bar.Given as goal

abbrev pub invariant-loop-context : goal.invariant-loop-context
invariant-loop-context l = record {
  first : from_first is_bar l.context l.rest ≡ from_first is_bar at_beginning l.pattern;
  room : l.context.classes + length l.rest ≤ length l.pattern;
}

-- how much is left
abbrev pub decreases-loop-context : goal.decreases-loop-context
decreases-loop-context l = length l.rest
