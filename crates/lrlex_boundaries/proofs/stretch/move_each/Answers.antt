use Rattle.std.proofs.Common.{◌≡◌, ◌+◌, ◌-◌, ◌<◌, length, get_or, ap, ◌∙◌, arith}
use Rattle.std.proofs.lemmas.List.{get_or_default}
use Rattle.std.proofs.lemmas.List.Edits.{map_over_more}
use Rattle.std.proofs.Math.ListN.{set}
use Rattle.lrlex_boundaries.specs.Ranges.{moved_stretch, no_stretch}
use Rattle.lrlex_boundaries.specs.declared.stretch.Stretch.{Stretch}
use Rattle.lrlex_boundaries.proofs.StretchLemmas.{not_yet, unmoved}
use Rattle.lrlex_boundaries.proofs.stretch.move_each.Goals as goal

pub returns-then-from-to : goal.returns-then-from-to
returns-then-from-to c = unmoved c.args.from c.args.to c.args.stretches.now c.if-from-to.true

pub overflow_sub-stretch : goal.overflow_sub-stretch
overflow_sub-stretch c =
    let i = c.loop-stretch.stretch-index in
    let lt : i < length c.args.stretches.now = omega arith in
    let at = not_yet (moved_stretch c.args.from c.args.to) c.args.stretches.now c.loop-stretch.stretches i c.loop-stretch.invariant lt in
    omega (arith, ap (λ (s : Stretch). s.from) at, (c.requires i no_stretch lt).from)

pub overflow_add-stretch : goal.overflow_add-stretch
overflow_add-stretch c =
    let i = c.loop-stretch.stretch-index in
    let lt : i < length c.args.stretches.now = omega arith in
    let at = not_yet (moved_stretch c.args.from c.args.to) c.args.stretches.now c.loop-stretch.stretches i c.loop-stretch.invariant lt in
    let h = c.requires i no_stretch lt in
    omega (arith, ap (λ (s : Stretch). s.from) at, h.from, h.fits)

pub loop-stretch-preserved : goal.loop-stretch-preserved
loop-stretch-preserved c =
    let f = moved_stretch c.args.from c.args.to in
    let ss = c.args.stretches.now in
    let now = c.loop-stretch.stretches in
    let i = c.loop-stretch.stretch-index in
    let x = get_or now i no_stretch in
    let within : i < length now = omega arith in
    let lt : i < length ss = omega arith in
    let at = not_yet f ss now i c.loop-stretch.invariant lt in
    let value : x.from - c.args.from + c.args.to ≡ (f x).from = omega (arith, ap (λ (s : Stretch). s.from) at, (c.requires i no_stretch lt).from) in
    ap (λ n. set now i (record { from = n; first = x.first; end = x.end })) value
    ∙ map_over_more f ss now i x lt c.loop-stretch.invariant (get_or_default now i no_stretch x within)
