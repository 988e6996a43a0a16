use Rattle.std.proofs.Common.{◌≡◌, ◌+◌, ◌^◌, ◌<◌, ◌≤◌, ◌++◌, All, length, take, drop, refl, sym, ap, ap₂, subst, ◌∙◌, arith}
use Rattle.lrlex_boundaries.specs.Ranges.{AreBefore, AreInOrder, AreJoined, AreRising, IsRange, boundaries_from}
use Rattle.lrlex_boundaries.proofs.ArenaLemmas.{bounds_more_entries, front_range, in_order_more_entries, length-boundaries_from}
use Rattle.lrlex_boundaries.proofs.SliceLemmas.{replaced}
use Rattle.lrlex_boundaries.proofs.RoomLemmas.{none_of_err, on_err}
use Rattle.lrlex_boundaries.proofs.boundaries.Boundaries.replace_from.Goals as goal

pub join-requires-clause-before : goal.join-requires-clause-before
join-requires-clause-before c = (front_range c.begun_before-mine.result c.self.invariant refl refl).range

pub join-requires-clause-fits : goal.join-requires-clause-fits
join-requires-clause-fits c =
    let own = c.self.inside in
    let other = c.between.inside in
    let kept : c.args.keep ≤ length own.places.items = omega (arith, length-boundaries_from own.entries.items own.stretches.items 0 own.places.items, ap length c.self.view_is, c.requires.within) in
    let many : c.len.result ≡ length other.places.items = omega (arith, length-boundaries_from other.entries.items other.stretches.items 0 other.places.items, ap length c.between.view_is) in
    subst (All (λ s. s.from + c.args.keep < 2 ^ 64)) (sym c.deref-2.ensures.value) (λ k d lt. omega (arith, c.between.invariant.begun k d lt))

pub returns-in_err-join-clause-same : goal.returns-in_err-join-clause-same
returns-in_err-join-clause-same c =
    let same : boundaries_from c.join.new.entries.items c.join.new.stretches.items 0 c.reserve.new.self.items ≡ c.args.self.now =
    ap₂ (λ ss ps. boundaries_from c.join.new.entries.items ss 0 ps) c.in_err-join.ensures.same c.reserve.ensures.items ∙ bounds_more_entries c.join.ensures.longer c.self.invariant ∙ c.self.view_is in
    on_err c.from_residual-in_err-join.result same

pub splice-requires-clause-order : goal.splice-requires-clause-order
splice-requires-clause-order c =
    let own = c.self.inside in
    omega (arith, length-boundaries_from own.entries.items own.stretches.items 0 own.places.items, ap length c.self.view_is, c.requires.within)

pub splice-requires-clause-room : goal.splice-requires-clause-room
splice-requires-clause-room c =
    let other = c.between.inside in
    omega (arith, length-boundaries_from other.entries.items other.stretches.items 0 other.places.items, ap length c.between.view_is, ap length c.deref-4.ensures.value, c.in_ok-reserve.ensures.ok)

pub invariant_of-self-2 : goal.invariant_of-self-2
invariant_of-self-2 c =
    let own = c.self.inside in
    let other = c.between.inside in
    let kept : c.args.keep ≤ length own.places.items = omega (arith, length-boundaries_from own.entries.items own.stretches.items 0 own.places.items, ap length c.self.view_is, c.requires.within) in
    let some : 0 < length other.places.items = omega (arith, length-boundaries_from other.entries.items other.stretches.items 0 other.places.items, ap length c.between.view_is, c.requires.some) in
    let before : AreBefore own.stretches.items c.begun_before-mine.result c.args.keep = rw c.deref.ensures.value at c.begun_before-mine.ensures in
    let joined : AreJoined other.entries.items c.join.new.entries.items c.begun_before-mine.result c.len-passed.result c.args.keep other.stretches.items own.stretches.items c.join.new.stretches.items c.in_ok-join.field-0 =
    rw (c.deref-2.ensures.value, c.deref-3.ensures.value) at c.in_ok-join.ensures.joined in
    (replaced {last = c.len-end.result} c.join.ensures.longer c.self.invariant c.between.invariant before kept some joined (omega arith)
    (c.splice.ensures ∙ ap₂ (λ ps more. take c.args.keep ps ++ (more ++ drop c.len-end.result ps)) c.reserve.ensures.items c.deref-4.ensures.value) (omega arith)).0

pub returns-clause-put : goal.returns-clause-put
returns-clause-put c =
    let own = c.self.inside in
    let other = c.between.inside in
    let kept : c.args.keep ≤ length own.places.items = omega (arith, length-boundaries_from own.entries.items own.stretches.items 0 own.places.items, ap length c.self.view_is, c.requires.within) in
    let some : 0 < length other.places.items = omega (arith, length-boundaries_from other.entries.items other.stretches.items 0 other.places.items, ap length c.between.view_is, c.requires.some) in
    let before : AreBefore own.stretches.items c.begun_before-mine.result c.args.keep = rw c.deref.ensures.value at c.begun_before-mine.ensures in
    let joined : AreJoined other.entries.items c.join.new.entries.items c.begun_before-mine.result c.len-passed.result c.args.keep other.stretches.items own.stretches.items c.join.new.stretches.items c.in_ok-join.field-0 =
    rw (c.deref-2.ensures.value, c.deref-3.ensures.value) at c.in_ok-join.ensures.joined in
    (replaced {last = c.len-end.result} c.join.ensures.longer c.self.invariant c.between.invariant before kept some joined (omega arith)
    (c.splice.ensures ∙ ap₂ (λ ps more. take c.args.keep ps ++ (more ++ drop c.len-end.result ps)) c.reserve.ensures.items c.deref-4.ensures.value) (omega arith)).1
    ∙ ap₂ (λ ms more. take c.args.keep ms ++ more) c.self.view_is c.between.view_is

pub begun_before-mine-requires : goal.begun_before-mine-requires
begun_before-mine-requires c = subst AreRising (sym c.deref.ensures.value) c.self.invariant.rising

pub len-requires : goal.len-requires
len-requires c = tt

pub invariant_of-self : goal.invariant_of-self
invariant_of-self c = subst (AreInOrder c.self.inside.entries.items c.self.inside.stretches.items) (sym c.reserve.ensures.items) c.self.invariant

pub returns-in_err-reserve-clause-put : goal.returns-in_err-reserve-clause-put
returns-in_err-reserve-clause-put c = none_of_err c.from_residual.result _ c.from_residual.ensures.0

pub returns-in_err-reserve-clause-same : goal.returns-in_err-reserve-clause-same
returns-in_err-reserve-clause-same c = on_err c.from_residual.result (ap (boundaries_from c.self.inside.entries.items c.self.inside.stretches.items 0) c.reserve.ensures.items ∙ c.self.view_is)

pub join-requires-clause-within : goal.join-requires-clause-within
join-requires-clause-within c = (omega (arith, c.begun_before-mine.ensures.within, c.deref.ensures.len), omega (arith, c.self.inside.stretches.ok.0))

pub join-requires-clause-rising : goal.join-requires-clause-rising
join-requires-clause-rising c = subst AreRising (sym c.deref-2.ensures.value) c.between.invariant.rising

pub join-requires-clause-ranges : goal.join-requires-clause-ranges
join-requires-clause-ranges c =
    subst (λ rs. All (IsRange (length rs)) c.deref-2.result.now) (sym c.deref-3.ensures.value)
    (subst (All (IsRange (length c.between.inside.entries.items))) (sym c.deref-2.ensures.value) c.between.invariant.ranges)

pub invariant_of-self-in_err-join : goal.invariant_of-self-in_err-join
invariant_of-self-in_err-join c =
    subst (AreInOrder c.join.new.entries.items c.join.new.stretches.items) (sym c.reserve.ensures.items)
    (subst (λ ss. AreInOrder c.join.new.entries.items ss c.self.inside.places.items) (sym c.in_err-join.ensures.same) (in_order_more_entries c.join.ensures.longer c.self.invariant))

pub returns-in_err-join-clause-put : goal.returns-in_err-join-clause-put
returns-in_err-join-clause-put c = none_of_err c.from_residual-in_err-join.result _ c.from_residual-in_err-join.ensures.0

pub splice-requires-clause-within : goal.splice-requires-clause-within
splice-requires-clause-within c = omega (arith, ap length c.reserve.ensures.items, c.self.inside.places.ok.0)

pub returns-clause-same : goal.returns-clause-same
returns-clause-same c = tt
