use Rattle.std.proofs.Common.{◌≡◌, ◌-◌, ◌*◌, length, drop}
use Rattle.lrlex_boundaries.specs.Ranges.{entries_among, no_stretch}
use Rattle.lrlex_boundaries.proofs.boundaries.is_loose.Given as goal

abbrev pub invariant-loop-here : goal.invariant-loop-here
invariant-loop-here l = l.spare - 2 * entries_among l.before (drop l.here-index l.stretches) ≡ (length l.entries - 64) - 2 * entries_among no_stretch l.stretches
