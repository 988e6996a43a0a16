-- What is left has such a number where the pattern has one.
use Rattle.std.proofs.Common.{◌≡◌, length}
use Rattle.lrlex_report.specs.PatternNotes.{has_braced_number}
use Rattle.lrlex_report.proofs.pattern_notes.has_braced_number.Given as goal

abbrev pub invariant-loop-rest : goal.invariant-loop-rest
invariant-loop-rest l = has_braced_number l.rest ≡ has_braced_number l.pattern

-- how much is left
abbrev pub decreases-loop-rest : goal.decreases-loop-rest
decreases-loop-rest l = length l.rest
