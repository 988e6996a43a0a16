use Rattle.std.proofs.Common.{rules, ◌≡◌, ◌+◌, ◌^◌, ◌<◌, ◌++◌, All, length, map, take, drop, refl, sym, ap, ap₂, subst, ◌∙◌, arith}
use Rattle.lrlex_boundaries.specs.Moves.{moved_boundary}
use Rattle.lrlex_boundaries.specs.Ranges.{AreBefore, AreBegun, IsMovablePlace, boundaries_from, moved_place}
use Rattle.lrlex_boundaries.proofs.StretchLemmas.{before_begun}
use Rattle.lrlex_boundaries.proofs.ArenaLemmas.{bounds_more_entries, in_order_more_entries, front_range, length-boundaries_from, place_is, within_places}
use Rattle.lrlex_boundaries.proofs.SliceLemmas.{replacing, replacing_movable, tail_movable, takes_place}
use Rattle.lrlex_boundaries.proofs.boundaries.Boundaries.splice.Goals as goal

pub index-from-requires : goal.index-from-requires
index-from-requires c = omega (arith, within_places c.self.inside.entries.items c.self.inside.stretches.items _ _ _ c.self.view_is c.requires.within)

pub join-requires-clause-within : goal.join-requires-clause-within
join-requires-clause-within c =
    let ss = c.self.inside.stretches.items in
    let before : AreBefore ss c.begun_before-mine.result c.args.keep = rw c.deref.ensures.value at c.begun_before-mine.ensures in
    let begun : AreBegun ss c.begun-passed.result c.args.index = rw c.deref-2.ensures.value at c.begun-passed.ensures in
    (before_begun before begun c.requires.order, begun.within)

pub join-requires-clause-before : goal.join-requires-clause-before
join-requires-clause-before c = (front_range c.begun_before-mine.result c.self.invariant refl refl).range

pub join-requires-clause-fits : goal.join-requires-clause-fits
join-requires-clause-fits c =
    let own = c.self.inside in
    let other = c.between.inside in
    let kept : c.args.index < length own.places.items = within_places own.entries.items own.stretches.items _ _ _ c.self.view_is c.requires.within in
    let many : c.len.result ≡ length other.places.items = omega (arith, length-boundaries_from other.entries.items other.stretches.items 0 other.places.items, ap length c.between.view_is) in
    subst (All (λ s. s.from + c.args.keep < 2 ^ 64)) (sym c.deref-3.ensures.value) (λ k d lt. omega (arith, c.between.invariant.begun k d lt))

pub invariant_of-self-in_err-joined : goal.invariant_of-self-in_err-joined
invariant_of-self-in_err-joined c = rw (c.in_err-joined.ensures.same, c.reserve.ensures.items) (in_order_more_entries c.join.ensures.longer c.self.invariant)

pub returns-in_err-joined-clause-same : goal.returns-in_err-joined-clause-same
returns-in_err-joined-clause-same c =
    let same : boundaries_from c.join.new.entries.items c.join.new.stretches.items 0 c.reserve.new.self.items ≡ c.args.self.now =
    ap₂ (λ ss ps. boundaries_from c.join.new.entries.items ss 0 ps) c.in_err-joined.ensures.same c.reserve.ensures.items ∙ bounds_more_entries c.join.ensures.longer c.self.invariant ∙ c.self.view_is in
    search rules

pub overflow_add-index : goal.overflow_add-index
overflow_add-index c = omega (arith, within_places c.self.inside.entries.items c.self.inside.stretches.items _ _ _ c.self.view_is c.requires.within)

pub put_places-requires-clause-within : goal.put_places-requires-clause-within
put_places-requires-clause-within c =
    omega (arith, within_places c.self.inside.entries.items c.self.inside.stretches.items _ _ _ c.self.view_is c.requires.within, ap length c.reserve.ensures.items)

pub put_places-requires-clause-room : goal.put_places-requires-clause-room
put_places-requires-clause-room c =
    let other = c.between.inside in
    omega (arith, length-boundaries_from other.entries.items other.stretches.items 0 other.places.items, ap length c.between.view_is, ap length c.deref-5.ensures.value, c.in_ok-reserve.ensures.ok)

pub put_places-requires-clause-movable : goal.put_places-requires-clause-movable
put_places-requires-clause-movable c =
    let own = c.self.inside in
    let from_is = c.index-from.ensures ∙ place_is own.entries.items own.stretches.items _ _ _ c.index-from.result.now c.self.view_is c.requires.within in
    let movable = tail_movable own.entries.items own.stretches.items own.places.items c.args.self.now c.args.index _ c.args.to c.self.view_is c.requires.movable in
    subst (λ ps. All (IsMovablePlace c.index-from.result.now c.args.to) (drop (c.args.index + 1) ps)) (sym c.reserve.ensures.items)
    (subst (λ p. All (IsMovablePlace p c.args.to) (drop (c.args.index + 1) own.places.items)) (sym from_is) movable)

pub overflow_add-index-2 : goal.overflow_add-index-2
overflow_add-index-2 c = omega (arith, within_places c.self.inside.entries.items c.self.inside.stretches.items _ _ _ c.self.view_is c.requires.within)

pub overflow_add-keep : goal.overflow_add-keep
overflow_add-keep c =
    omega (arith, within_places c.self.inside.entries.items c.self.inside.stretches.items _ _ _ c.self.view_is c.requires.within, c.in_ok-reserve.ensures.ok)

pub move_stretches-requires-clause-movable : goal.move_stretches-requires-clause-movable
move_stretches-requires-clause-movable c =
    let other = c.between.inside in
    let long = length-boundaries_from other.entries.items other.stretches.items 0 other.places.items in
    let r = takes_place c.join.ensures.longer c.self.invariant c.self.view_is c.between.invariant c.between.view_is c.deref.ensures.value c.begun_before-mine.ensures c.deref-2.ensures.value c.begun-passed.ensures
    c.requires.order c.requires.within c.requires.some c.requires.last c.deref-3.ensures.value c.deref-4.ensures.value c.in_ok-joined.ensures.joined in
    replacing_movable r (c.args.keep + c.len-2.result) (omega (arith, long, ap length c.between.view_is)) (omega (arith, long, ap length c.between.view_is, c.in_ok-reserve.ensures.ok))

pub invariant_of-self-2 : goal.invariant_of-self-2
invariant_of-self-2 c =
    let own = c.self.inside in
    let other = c.between.inside in
    let after = c.args.index + 1 in
    let r = takes_place c.join.ensures.longer c.self.invariant c.self.view_is c.between.invariant c.between.view_is c.deref.ensures.value c.begun_before-mine.ensures c.deref-2.ensures.value c.begun-passed.ensures
    c.requires.order c.requires.within c.requires.some c.requires.last c.deref-3.ensures.value c.deref-4.ensures.value c.in_ok-joined.ensures.joined in
    let from = c.index-from.result.now in
    let places_are = c.put_places.ensures
    ∙ ap₂ (λ ps more. take c.args.keep ps ++ (more ++ map (moved_place from c.args.to) (drop after ps))) c.reserve.ensures.items c.deref-5.ensures.value in
    (replacing r (c.args.keep + c.len-2.result) from c.args.to (omega (arith, length-boundaries_from other.entries.items other.stretches.items 0 other.places.items, ap length c.between.view_is))
    c.move_stretches.ensures places_are).0

pub returns-clause-put : goal.returns-clause-put
returns-clause-put c =
    let own = c.self.inside in
    let other = c.between.inside in
    let after = c.args.index + 1 in
    let r = takes_place c.join.ensures.longer c.self.invariant c.self.view_is c.between.invariant c.between.view_is c.deref.ensures.value c.begun_before-mine.ensures c.deref-2.ensures.value c.begun-passed.ensures
    c.requires.order c.requires.within c.requires.some c.requires.last c.deref-3.ensures.value c.deref-4.ensures.value c.in_ok-joined.ensures.joined in
    let from = c.index-from.result.now in
    let from_is = c.index-from.ensures ∙ place_is own.entries.items own.stretches.items _ _ _ from c.self.view_is c.requires.within in
    let places_are = c.put_places.ensures
    ∙ ap₂ (λ ps more. take c.args.keep ps ++ (more ++ map (moved_place from c.args.to) (drop after ps))) c.reserve.ensures.items c.deref-5.ensures.value in
    (replacing r (c.args.keep + c.len-2.result) from c.args.to (omega (arith, length-boundaries_from other.entries.items other.stretches.items 0 other.places.items, ap length c.between.view_is))
    c.move_stretches.ensures places_are).1
    ∙ ap₂ (λ os ms. (take c.args.keep os ++ ms) ++ map (moved_boundary from c.args.to) (drop after os)) c.self.view_is c.between.view_is
    ∙ ap (λ p. (take c.args.keep c.args.self.now ++ c.args.between.now) ++ map (moved_boundary p c.args.to) (drop after c.args.self.now)) from_is
