-- What is left has its first such class where the pattern has it, and the bytes before it have opened no more classes than they are.
use Rattle.std.proofs.Common.{◌≡◌, ◌+◌, ◌≤◌, length}
use Rattle.lrlex_report.specs.PatternClasses.{at_beginning, from_first}
use Rattle.lrlex_report.specs.ClassNames.{is_unknown_class}
use Rattle.lrlex_report.proofs.warnings.class_names.has_unknown_class.Given as goal

abbrev pub invariant-loop-rest : goal.invariant-loop-rest
invariant-loop-rest l = record {
  first : from_first is_unknown_class l.context l.rest ≡ from_first is_unknown_class at_beginning l.pattern;
  room : l.context.classes + length l.rest ≤ length l.pattern;
}

-- how much is left
abbrev pub decreases-loop-rest : goal.decreases-loop-rest
decreases-loop-rest l = length l.rest
