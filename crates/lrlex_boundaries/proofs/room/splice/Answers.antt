use Rattle.std.proofs.Common.{lt_of_le_of_lt, lt_trans, mul-le-mul_right, ◌≡◌, ◌+◌, ◌-◌, ◌≤◌, length, take, ap, ◌∙◌, arith, length-append, length-take-le}
use Rattle.std.proofs.lemmas.List.{with_items_is}
use Rattle.lrlex_boundaries.proofs.RoomLemmas.{HasRoom, has_room_already, length-put_mid, moved_up, part_length, put_between}
use Rattle.lrlex_boundaries.proofs.room.splice.Goals.{After-deref_mut, then-end-to+else-more-test, else-end-to}
use Rattle.lrlex_boundaries.proofs.room.splice.Goals as goal
use Rattle.lrlex_boundaries.proofs.room.splice.Given as given
use borrow.Rule.Slice.PartMut.{put_mid}

pub overflow_add-end : goal.overflow_add-end
overflow_add-end g c = omega (arith, c.args.list.now.ok.0, c.args.list.now.small)

pub offset_bounds-between-index : goal.offset_bounds-between-index
offset_bounds-between-index g c = omega arith

pub bounds-between-index : goal.bounds-between-index
bounds-between-index g c = omega arith

pub push_reserved-requires : goal.push_reserved-requires
push_reserved-requires g c = omega arith

pub more-smaller : goal.more-smaller
more-smaller g c = omega arith

pub copy_within-requires-clause-start_le_end : goal.copy_within-requires-clause-start_le_end
copy_within-requires-clause-start_le_end g c = omega (arith, c.args.list.now.ok.0)

pub copy_within-requires-clause-in_bounds : goal.copy_within-requires-clause-in_bounds
copy_within-requires-clause-in_bounds g c =
    omega (arith, c.args.list.now.ok.0, c.more.list.ok.0, ap length c.more.invariant.items, length-append c.args.list.now.items (take c.more.index c.args.between.now))

pub copy_within-requires-clause-dest_in_bounds : goal.copy_within-requires-clause-dest_in_bounds
copy_within-requires-clause-dest_in_bounds g c =
    omega (arith, c.args.list.now.ok.0, c.more.list.ok.0, ap length c.more.invariant.items, length-append c.args.list.now.items (take c.more.index c.args.between.now), length-take-le c.more.index c.args.between.now (omega arith))

pub copy_within-requires-clause-not_exhausted : goal.copy_within-requires-clause-not_exhausted
copy_within-requires-clause-not_exhausted g c = tt

pub overflow_sub-len : goal.overflow_sub-len
overflow_sub-len g c = omega (arith, c.args.list.now.ok.0)

pub overflow_add-end-then-end-to : goal.overflow_add-end-then-end-to
overflow_add-end-then-end-to g c = omega (arith, c.args.list.now.ok.0, c.args.list.now.small)

-- the list, once there is room
has_room : (g : given.Over) (c : After-deref_mut g) → HasRoom c.args.list.now.items c.deref_mut.result.now c.args.from c.args.to (c.args.from + length c.args.between.now)
has_room g c =
    let e = c.args.from + length c.args.between.now in
    elim c.if-end-to.branch [
      | then-end-to+else-more-test w ↦
          moved_up {moved = w.copy_within.new.self.items} c.args.between.now c.args.from c.args.to e c.len-len.result w.more.index c.requires.order (omega arith) (omega (arith, c.args.list.now.ok.0)) (omega (arith, c.args.list.now.ok.0))
          w.more.invariant.items (omega arith) (omega arith) w.copy_within.ensures.items (c.deref_mut.ensures.value ∙ ap (λ v. v.items) w.list-is ∙ w.truncate.ensures.items)
      | else-end-to w ↦ has_room_already c.args.from (c.deref_mut.ensures.value ∙ ap (λ v. v.items) w.list-is) w.if-end-to.false c.requires.within
    ]

pub offset_bounds-deref_mut-from : goal.offset_bounds-deref_mut-from
offset_bounds-deref_mut-from g c =
    let h = has_room g c in
    let le : c.args.from ≤ length c.deref_mut.result.now = omega (arith, h.within) in
    record { fits = lt_of_le_of_lt (mul-le-mul_right _ le) (lt_trans c.deref_mut.type_inv.1 (omega arith)) }

pub slice_bounds-copy_from_slice-count : goal.slice_bounds-copy_from_slice-count
slice_bounds-copy_from_slice-count g c = omega arith

pub slice_bounds-copy_from_slice-start : goal.slice_bounds-copy_from_slice-start
slice_bounds-copy_from_slice-start g c = omega arith

pub slice_bounds-copy_from_slice-end : goal.slice_bounds-copy_from_slice-end
slice_bounds-copy_from_slice-end g c = (has_room g c).within

pub copy_from_slice-requires : goal.copy_from_slice-requires
copy_from_slice-requires g c =
    let h = has_room g (goal.at.copy_from_slice-requires g c).After-deref_mut in
    omega (arith, part_length c.deref_mut.result.now c.args.from (c.args.from + length c.args.between.now) h.within)

pub returns : goal.returns
returns g c =
    let h = has_room g (goal.at.returns g c).After-deref_mut in
    let xs = c.deref_mut.result.now in
    let e = c.args.from + length c.args.between.now in
    let ys = c.copy_from_slice.new.self in
    let long : length ys ≡ e - c.args.from = omega (arith, ap length c.copy_from_slice.ensures.after) in
    let all = length-put_mid xs ys c.args.from (e - c.args.from) (omega (arith, h.within)) long in
    with_items_is c.if-end-to.list (put_mid c.args.from (e - c.args.from) xs ys) (all ∙ c.deref_mut.ensures.len) ∙ put_between h (omega arith) c.copy_from_slice.ensures.after
