-- `text` has the lines of the errors so far.
use Rattle.std.proofs.Common.{◌≡◌, string_bytes, take}
use Rattle.lrlex_cli.specs.FaultLines.{fault_lines}
use Rattle.lrlex_cli.proofs.fault_lines.fault_lines.Given as goal

abbrev pub invariant-loop-fault : goal.invariant-loop-fault
invariant-loop-fault l = string_bytes l.text ≡ fault_lines l.rules (take l.fault-index l.faults)
