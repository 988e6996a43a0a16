use Rattle.std.proofs.Common.{◌≡◌, ◌-◌, max, take, get_or, ap, arith}
use Rattle.std.proofs.lemmas.List.{take_more}
use Rattle.lrlex_boundaries.specs.Ranges.{longest, no_stretch}
use Rattle.lrlex_boundaries.proofs.StretchLemmas.{longest-last}
use Rattle.lrlex_boundaries.proofs.stretch.longest.Goals as goal

pub loop-stretch-preserved : goal.loop-stretch-preserved
loop-stretch-preserved c =
    let ss = c.args.stretches.now in
    let i = c.loop-stretch.stretch-index in
    let s = get_or ss i no_stretch in
    let most : c.max-most.result ≡ max c.loop-stretch.most (s.end - s.first) = c.max-most.ensures in
    omega (arith, ap longest (take_more ss i no_stretch (omega arith)), longest-last (take i ss) s)
