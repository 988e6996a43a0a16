-- The faults so far are shown.
use Rattle.std.proofs.Common.{string_bytes, take}
use Rattle.lrlex_report.specs.FaultTexts.{AreFaultTexts}
use Rattle.lrlex_report.proofs.faults.faults_text.Given as goal

abbrev pub invariant-loop-fault : goal.invariant-loop-fault
invariant-loop-fault l = AreFaultTexts l.source.file.now l.source.text.now (take l.fault-index l.faults) (string_bytes l.shown)
