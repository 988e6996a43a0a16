use Rattle.std.proofs.Common.{◌≡◌, ◌++◌, map, take, drop}
use Rattle.lrlex_boundaries.specs.Ranges.{moved_place}
use Rattle.lrlex_boundaries.proofs.boundaries.move_places.Given as goal

abbrev pub invariant-loop-place : goal.invariant-loop-place
invariant-loop-place l = l.places ≡ map (moved_place l.from l.to) (take l.place-index l.initial.places) ++ drop l.place-index l.initial.places
