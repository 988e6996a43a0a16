use Rattle.std.proofs.Common.{◌≡◌, ◌+◌, ◌-◌, ◌++◌, map, take, drop}
use Rattle.lrlex_base.proofs.newlines.move_starts.Given as goal

abbrev pub invariant-loop-i : goal.invariant-loop-i
invariant-loop-i l = l.starts ≡ take l.i (take l.first l.initial.starts ++ map (λ s. s - l.from + l.to) (drop l.first l.initial.starts)) ++ drop l.i l.initial.starts
