use Rattle.std.proofs.Common.{◌≡◌, take}
use Rattle.lrlex_boundaries.specs.Ranges.{longest}
use Rattle.lrlex_boundaries.proofs.stretch.longest.Given as goal

abbrev pub invariant-loop-stretch : goal.invariant-loop-stretch
invariant-loop-stretch l = l.most ≡ longest (take l.stretch-index l.stretches)
