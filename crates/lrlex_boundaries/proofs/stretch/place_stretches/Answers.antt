use Rattle.std.proofs.Common.{◌<◌, length, get_or, arith}
use Rattle.std.proofs.lemmas.List.{get_or_default}
use Rattle.std.proofs.lemmas.List.Edits.{map_over_more}
use Rattle.lrlex_boundaries.specs.Ranges.{no_stretch, placed_stretch}
use Rattle.lrlex_boundaries.proofs.stretch.place_stretches.Goals as goal

pub loop-stretch-preserved : goal.loop-stretch-preserved
loop-stretch-preserved c =
    let now = c.loop-stretch.stretches in
    let i = c.loop-stretch.stretch-index in
    let x = get_or now i no_stretch in
    let within : i < length now = omega arith in
    map_over_more (placed_stretch c.args.boundaries c.args.entries) c.args.stretches.now now i x (omega arith) c.loop-stretch.invariant (get_or_default now i no_stretch x within)
