use Rattle.std.proofs.Common.{◌≡◌, ◌++◌, map, take, drop}
use Rattle.lrlex_boundaries.specs.Ranges.{moved_stretch}
use Rattle.lrlex_boundaries.proofs.stretch.move_each.Given as goal

abbrev pub invariant-loop-stretch : goal.invariant-loop-stretch
invariant-loop-stretch l = l.stretches ≡ map (moved_stretch l.from l.to) (take l.stretch-index l.initial.stretches) ++ drop l.stretch-index l.initial.stretches
