use Rattle.std.proofs.Common.{◌≡◌, ◌++◌, map, take, drop}
use Rattle.lrlex_boundaries.specs.Ranges.{placed_stretch}
use Rattle.lrlex_boundaries.proofs.stretch.place_stretches.Given as goal

abbrev pub invariant-loop-stretch : goal.invariant-loop-stretch
invariant-loop-stretch l = l.stretches ≡ map (placed_stretch l.boundaries l.entries) (take l.stretch-index l.initial.stretches) ++ drop l.stretch-index l.initial.stretches
