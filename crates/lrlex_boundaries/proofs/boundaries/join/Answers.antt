use Rattle.std.proofs.Common.{le_refl, length-take-le, ◌≡◌, ◌+◌, ◌-◌, ◌++◌, length, take, drop, get_or, refl, sym, ap, ap₂, ◌∙◌, arith, [], ◌∷◌, map}
use Rattle.std.proofs.lemmas.Bool.{eqb-true}
use Rattle.std.proofs.lemmas.List.{nil_from_length, take_rest}
use Rattle.std.proofs.lemmas.List.Elements.{All-drop}
use Rattle.std.proofs.lemmas.Slice.Eq.{slice_eq-Decides}
use Rattle.lrlex_boundaries.specs.Ranges.{IsRange, entries_of, last_stretch, no_stretch, placed_stretch, stretch_at}
use Rattle.lrlex_boundaries.specs.declared.stretch.Stretch.{Stretch}
use Rattle.lrlex_boundaries.proofs.ArenaLemmas.{range_at, slice_range-append}
use Rattle.lrlex_boundaries.proofs.PairLemmas.{pair_decides}
use Rattle.lrlex_boundaries.proofs.RoomLemmas.{longer_by, none_of_err, on_err, part_length, same_behind}
use Rattle.lrlex_boundaries.proofs.SliceLemmas.{placeable, ArePlaced, joined, joined_opened, placed_behind}
use Rattle.lrlex_boundaries.proofs.boundaries.join.Goals as goal

pub range_of-requires-2 : goal.range_of-requires-2
range_of-requires-2 c = range_at c.args.between.now 0 c.stretch_of-first.ensures c.requires.ranges

pub returns-then-is_empty-clause-joined : goal.returns-then-is_empty-clause-joined
returns-then-is_empty-clause-joined c =
    let between = c.args.between.now in
    let stacks = c.args.stacks.now in
    let entries = c.args.entries.now.items in
    let old = c.args.stretches.now.items in
    let b = c.begun.result in
    let mine = c.args.mine in
    let later = take (length between - b) (drop b between) in
    let later_is : later ≡ drop b between = take_rest between b in
    let none : length later ≡ 0 = eqb-true (length later) 0 (sym c.is_empty.ensures ∙ c.if-is_empty.true) in
    let empty : later ≡ [] = nil_from_length later none in
    let before_is : c.last_of-before.result ≡ last_stretch no_stretch (take mine old) = c.last_of-before.ensures ∙ ap (λ xs. last_stretch no_stretch (take mine xs)) c.deref.ensures.value in
    let equal = (slice_eq-Decides pair_decides c.range_of.result.now c.range_of-2.result.now c.eq-same.result c.eq-same.ensures).0 c.if-same.true in
    let same : entries_of entries (last_stretch no_stretch (take mine old)) ≡ entries_of stacks (stretch_at between 0) =
    ap₂ entries_of (sym c.deref-2.ensures.value) (sym before_is) ∙ sym c.range_of.ensures ∙ equal ∙ c.range_of-2.ensures ∙ ap (entries_of stacks) c.stretch_of-first.ensures in
    let placed : ArePlaced stacks entries c.args.keep c.len-shift.result (drop b between) = λ i d lt. absurd (omega (arith, ap length later_is)) in
    joined c.len-shift.result (c.splice.ensures ∙ ap₂ (λ xs ys. take mine xs ++ (ys ++ drop c.args.passed xs)) c.reserve.ensures.items (empty ∙ sym (ap (map (placed_stretch c.args.keep c.len-shift.result)) empty)))
    later_is (omega arith) c.requires.rising c.begun.ensures placed same

pub returns-then-same-2-clause-joined : goal.returns-then-same-2-clause-joined
returns-then-same-2-clause-joined c =
    let between = c.args.between.now in
    let stacks = c.args.stacks.now in
    let entries = c.args.entries.now.items in
    let old = c.args.stretches.now.items in
    let b = c.begun.result in
    let mine = c.args.mine in
    let later = take (length between - b) (drop b between) in
    let before = last_stretch no_stretch (take mine old) in
    let before_is : c.last_of-before.result ≡ before = c.last_of-before.ensures ∙ ap (λ xs. last_stretch no_stretch (take mine xs)) c.deref.ensures.value in
    let equal = (slice_eq-Decides pair_decides c.range_of.result.now c.range_of-2.result.now c.eq-same.result c.eq-same.ensures).0 c.if-same-2.true in
    let shift : c.len-shift.result ≡ length entries = omega arith in
    let more : c.extend_from_slice.new.self.items ≡ entries ++ stacks = c.in_ok-extend_from_slice.ensures.items in
    let same : entries_of c.extend_from_slice.new.self.items before ≡ entries_of stacks (stretch_at between 0) =
    ap (λ xs. entries_of xs before) more ∙ slice_range-append entries stacks before.first before.end c.requires.before.ordered c.requires.before.within
    ∙ ap₂ entries_of (sym c.deref-2.ensures.value) (sym before_is) ∙ sym c.range_of.ensures ∙ equal ∙ c.range_of-2.ensures ∙ ap (entries_of stacks) c.stretch_of-first.ensures in
    joined c.len-shift.result (c.put_stretches.ensures ∙ ap (λ xs. take mine xs ++ (map (placed_stretch c.args.keep c.len-shift.result) later ++ drop c.args.passed xs)) c.reserve.ensures.items)
    (take_rest between b) refl c.requires.rising c.begun.ensures
    (λ i d lt. placed_behind stacks entries c.args.keep c.len-shift.result (get_or (drop b between) i d) more shift (All-drop (IsRange (length stacks)) b between c.requires.ranges i d lt)) same

pub overflow_add-opening : goal.overflow_add-opening
overflow_add-opening c =
    let range : IsRange (length c.args.stacks.now) c.stretch_of-first.result = range_at c.args.between.now 0 c.stretch_of-first.ensures c.requires.ranges in
    omega (arith, range.ordered, range.within)

pub overflow_add-opening-2 : goal.overflow_add-opening-2
overflow_add-opening-2 c =
    let range : IsRange (length c.args.stacks.now) c.stretch_of-first.result = range_at c.args.between.now 0 c.stretch_of-first.ensures c.requires.ranges in
    omega (arith, range.within)

pub returns-clause-joined : goal.returns-clause-joined
returns-clause-joined c =
    let between = c.args.between.now in
    let stacks = c.args.stacks.now in
    let entries = c.args.entries.now.items in
    let old = c.args.stretches.now.items in
    let b = c.begun.result in
    let mine = c.args.mine in
    let keep = c.args.keep in
    let n = c.len-shift.result in
    let first = c.stretch_of-first.result in
    let opening : Stretch = record { from = keep; first = first.first + n; end = first.end + n } in
    let shift : n ≡ length entries = omega arith in
    let more : c.extend_from_slice.new.self.items ≡ entries ++ stacks = c.in_ok-extend_from_slice.ensures.items in
    let range : IsRange (length stacks) first = range_at between 0 c.stretch_of-first.ensures c.requires.ranges in
    let there = placed_behind stacks entries keep n first more shift range in
    joined_opened n opening c.requires.within.0 c.requires.within.1
    (c.in_ok-insert.ensures.items ∙ ap (λ xs. take mine xs ++ opening ∷ drop mine xs) c.reserve.ensures.items) c.put_stretches-2.ensures (take_rest between b) refl c.requires.rising c.begun.ensures
    (λ i d lt. placed_behind stacks entries keep n (get_or (drop b between) i d) more shift (All-drop (IsRange (length stacks)) b between c.requires.ranges i d lt))
    refl (record { ordered = there.0.ordered; within = there.0.within }) (there.1 ∙ ap (entries_of stacks) c.stretch_of-first.ensures)

pub slice_bounds-last_of-end : goal.slice_bounds-last_of-end
slice_bounds-last_of-end c = sym (length-take-le c.args.mine c.deref.result.now (omega (arith, ap length c.deref.ensures.value)))

pub last_of-before-requires : goal.last_of-before-requires
last_of-before-requires c = tt

pub stretch_of-first-requires : goal.stretch_of-first-requires
stretch_of-first-requires c = c.requires.rising

pub begun-requires : goal.begun-requires
begun-requires c = c.requires.rising

pub offset_bounds-between-begun : goal.offset_bounds-between-begun
offset_bounds-between-begun c = omega (arith, c.begun.ensures.within)

pub slice_bounds-later-count : goal.slice_bounds-later-count
slice_bounds-later-count c = c.begun.ensures.within

pub slice_bounds-later-start : goal.slice_bounds-later-start
slice_bounds-later-start c = c.begun.ensures.within

pub slice_bounds-later-end : goal.slice_bounds-later-end
slice_bounds-later-end c = le_refl (length c.args.between.now)

pub range_of-requires : goal.range_of-requires
range_of-requires c =
    let before_is = c.last_of-before.ensures ∙ ap (λ xs. last_stretch no_stretch (take c.args.mine xs)) c.deref.ensures.value in
    let first = ap (λ s. s.first) before_is in
    let end = ap (λ s. s.end) before_is in
    record { ordered = omega (arith, first, end, c.requires.before.ordered); within = omega (arith, end, ap length c.deref-2.ensures.value, c.requires.before.within) }

pub overflow_add-later : goal.overflow_add-later
overflow_add-later c = omega (arith, part_length c.args.between.now c.begun.result (length c.args.between.now) (le_refl _))

pub returns-in_err-reserve-clause-longer : goal.returns-in_err-reserve-clause-longer
returns-in_err-reserve-clause-longer c = same_behind refl

pub returns-in_err-reserve-clause-joined : goal.returns-in_err-reserve-clause-joined
returns-in_err-reserve-clause-joined c = none_of_err c.from_residual.result _ c.from_residual.ensures.0

pub returns-in_err-reserve-clause-same : goal.returns-in_err-reserve-clause-same
returns-in_err-reserve-clause-same c = on_err c.from_residual.result c.reserve.ensures.items

pub splice-requires-clause-order : goal.splice-requires-clause-order
splice-requires-clause-order c = c.requires.within.0

pub splice-requires-clause-within : goal.splice-requires-clause-within
splice-requires-clause-within c = omega (arith, ap length c.reserve.ensures.items)

pub splice-requires-clause-room : goal.splice-requires-clause-room
splice-requires-clause-room c = omega (arith, c.in_ok-reserve.ensures.ok)

pub returns-then-is_empty-clause-longer : goal.returns-then-is_empty-clause-longer
returns-then-is_empty-clause-longer c = same_behind refl

pub returns-then-is_empty-clause-same : goal.returns-then-is_empty-clause-same
returns-then-is_empty-clause-same c = tt

pub returns-in_err-extend_from_slice-clause-longer : goal.returns-in_err-extend_from_slice-clause-longer
returns-in_err-extend_from_slice-clause-longer c = same_behind c.in_err-extend_from_slice.ensures.items

pub returns-in_err-extend_from_slice-clause-joined : goal.returns-in_err-extend_from_slice-clause-joined
returns-in_err-extend_from_slice-clause-joined c = none_of_err c.from_residual-in_err-extend_from_slice.result _ c.from_residual-in_err-extend_from_slice.ensures.0

pub returns-in_err-extend_from_slice-clause-same : goal.returns-in_err-extend_from_slice-clause-same
returns-in_err-extend_from_slice-clause-same c = on_err c.from_residual-in_err-extend_from_slice.result c.reserve.ensures.items

pub put_stretches-requires-clause-order : goal.put_stretches-requires-clause-order
put_stretches-requires-clause-order c = c.requires.within.0

pub put_stretches-requires-clause-within : goal.put_stretches-requires-clause-within
put_stretches-requires-clause-within c = omega (arith, ap length c.reserve.ensures.items)

pub put_stretches-requires-clause-room : goal.put_stretches-requires-clause-room
put_stretches-requires-clause-room c = omega (arith, c.in_ok-reserve.ensures.ok)

pub put_stretches-requires-clause-placeable : goal.put_stretches-requires-clause-placeable
put_stretches-requires-clause-placeable c = placeable c.args.between.now (length c.args.between.now - c.begun.result) c.begun.result c.args.keep c.len-shift.result (length c.args.stacks.now) c.requires.ranges c.requires.fits (omega (arith, c.in_ok-extend_from_slice.ensures.len, c.extend_from_slice.new.self.small, c.extend_from_slice.new.self.ok.1))

pub overflow_add-result : goal.overflow_add-result
overflow_add-result c = omega (arith, c.in_ok-reserve.ensures.ok, c.args.stretches.now.ok.0, c.reserve.new.self.small)

pub returns-then-same-2-clause-longer : goal.returns-then-same-2-clause-longer
returns-then-same-2-clause-longer c = longer_by c.args.entries.now.items c.args.stacks.now c.in_ok-extend_from_slice.ensures.items

pub returns-then-same-2-clause-same : goal.returns-then-same-2-clause-same
returns-then-same-2-clause-same c = tt

pub insert-requires : goal.insert-requires
insert-requires c = omega (arith, c.args.stretches.now.ok.0)

pub returns-in_err-insert-clause-longer : goal.returns-in_err-insert-clause-longer
returns-in_err-insert-clause-longer c = longer_by c.args.entries.now.items c.args.stacks.now c.in_ok-extend_from_slice.ensures.items

pub returns-in_err-insert-clause-joined : goal.returns-in_err-insert-clause-joined
returns-in_err-insert-clause-joined c = none_of_err c.from_residual-in_err-insert.result _ c.from_residual-in_err-insert.ensures.0

pub returns-in_err-insert-clause-same : goal.returns-in_err-insert-clause-same
returns-in_err-insert-clause-same c = on_err c.from_residual-in_err-insert.result (c.in_err-insert.ensures.items ∙ c.reserve.ensures.items)

pub overflow_add-mine : goal.overflow_add-mine
overflow_add-mine c = omega (arith, c.in_ok-reserve.ensures.ok, c.args.stretches.now.ok.0, c.reserve.new.self.small)

pub overflow_add-passed : goal.overflow_add-passed
overflow_add-passed c = omega (arith, c.in_ok-reserve.ensures.ok, c.args.stretches.now.ok.0, c.reserve.new.self.small)

pub put_stretches-requires-2-clause-order : goal.put_stretches-requires-2-clause-order
put_stretches-requires-2-clause-order c = omega (arith, c.requires.within.0)

pub put_stretches-requires-2-clause-within : goal.put_stretches-requires-2-clause-within
put_stretches-requires-2-clause-within c = omega (arith, c.in_ok-insert.ensures.len, c.args.stretches.now.ok.0, c.insert.new.self.ok.0)

pub put_stretches-requires-2-clause-room : goal.put_stretches-requires-2-clause-room
put_stretches-requires-2-clause-room c = omega (arith, c.in_ok-reserve.ensures.ok, c.in_ok-insert.ensures.len)

pub put_stretches-requires-2-clause-placeable : goal.put_stretches-requires-2-clause-placeable
put_stretches-requires-2-clause-placeable c = placeable c.args.between.now (length c.args.between.now - c.begun.result) c.begun.result c.args.keep c.len-shift.result (length c.args.stacks.now) c.requires.ranges c.requires.fits (omega (arith, c.in_ok-extend_from_slice.ensures.len, c.extend_from_slice.new.self.small, c.extend_from_slice.new.self.ok.1))

pub overflow_add-result-2 : goal.overflow_add-result-2
overflow_add-result-2 c = omega (arith, c.in_ok-reserve.ensures.ok, c.args.stretches.now.ok.0, c.reserve.new.self.small)

pub overflow_add-result-3 : goal.overflow_add-result-3
overflow_add-result-3 c = omega (arith, c.in_ok-reserve.ensures.ok, c.args.stretches.now.ok.0, c.reserve.new.self.small)

pub returns-clause-longer : goal.returns-clause-longer
returns-clause-longer c = longer_by c.args.entries.now.items c.args.stacks.now c.in_ok-extend_from_slice.ensures.items

pub returns-clause-same : goal.returns-clause-same
returns-clause-same c = tt
