use Rattle.std.proofs.Common.{◌≡◌, ◌++◌, take}
use Rattle.lrlex_base.specs.Places.{newlines_from, starts_after}
use Rattle.lrlex_base.proofs.newlines.add_starts.Given as goal

abbrev pub invariant-loop-i : goal.invariant-loop-i
invariant-loop-i g l = l.starts.items ≡ l.initial.starts.items ++ starts_after (newlines_from l.at (take l.i l.piece))
