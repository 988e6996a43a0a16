-- `out` has what it had before, and then the message at the places so far.
use Rattle.std.proofs.Common.{◌≡◌, ◌++◌, string_bytes, take}
use Rattle.lrlex_report.specs.FaultTexts.{at_each}
use Rattle.lrlex_report.proofs.faults.push_each.Given as goal

abbrev pub invariant-loop-span : goal.invariant-loop-span
invariant-loop-span l = string_bytes l.out ≡ string_bytes l.initial.out ++ at_each l.source.file.now l.source.text.now l.message (take l.span-index l.spans)
