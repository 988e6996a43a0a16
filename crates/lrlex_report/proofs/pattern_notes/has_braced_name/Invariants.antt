-- What is left has a name in braces where the pattern has one.
use Rattle.std.proofs.Common.{◌≡◌, length}
use Rattle.lrlex_report.specs.PatternNotes.{has_braced_name}
use Rattle.lrlex_report.proofs.pattern_notes.has_braced_name.Given as goal

abbrev pub invariant-loop-rest : goal.invariant-loop-rest
invariant-loop-rest l = has_braced_name l.before l.rest ≡ has_braced_name 0 l.pattern

-- how much is left
abbrev pub decreases-loop-rest : goal.decreases-loop-rest
decreases-loop-rest l = length l.rest
