-- `out` has what it had before, and then what the characters so far add.
use Rattle.std.proofs.Common.{◌≡◌, ◌++◌, string_bytes}
use Rattle.lrlex_report.specs.Carets.{shown_line}
use Rattle.lrlex_report.proofs.carets.push_shown.Given as goal

abbrev pub invariant-loop-c : goal.invariant-loop-c
invariant-loop-c l = string_bytes l.out ≡ string_bytes l.initial.out ++ shown_line l.yielded
