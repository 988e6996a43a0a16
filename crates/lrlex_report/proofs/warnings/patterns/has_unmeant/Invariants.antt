-- What is left has such an escape where the pattern has one.
use Rattle.std.proofs.Common.{◌≡◌, length}
use Rattle.lrlex_report.specs.Warnings.{has_unmeant}
use Rattle.lrlex_report.proofs.warnings.patterns.has_unmeant.Given as goal

abbrev pub invariant-loop-rest : goal.invariant-loop-rest
invariant-loop-rest l = has_unmeant l.listed l.rest ≡ has_unmeant l.listed l.pattern

-- how much is left
abbrev pub decreases-loop-rest : goal.decreases-loop-rest
decreases-loop-rest l = length l.rest
