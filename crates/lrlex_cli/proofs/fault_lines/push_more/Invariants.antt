-- `text` has what it had before, and then the places so far.
use Rattle.std.proofs.Common.{◌≡◌, ◌++◌, string_bytes, take}
use Rattle.lrlex_cli.specs.FaultLines.{more_places}
use Rattle.lrlex_cli.proofs.fault_lines.push_more.Given as goal

abbrev pub invariant-loop-span : goal.invariant-loop-span
invariant-loop-span l = string_bytes l.text ≡ string_bytes l.initial.text ++ more_places l.rules (take l.span-index l.spans)
