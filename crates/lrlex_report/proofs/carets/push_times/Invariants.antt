-- `out` has what it had before, and then the character `done` times.
use Rattle.std.proofs.Common.{◌≡◌, ◌-◌, ◌≤◌, ◌++◌, replicate, string_bytes}
use Rattle.lrlex_report.proofs.carets.push_times.Given as goal

abbrev pub invariant-times : goal.invariant-times
invariant-times l = (l.done ≤ l.times) × (string_bytes l.out ≡ string_bytes l.initial.out ++ replicate l.done l.c)

abbrev pub decreases-times : goal.decreases-times
decreases-times l = l.times - l.done
