use Rattle.std.proofs.Common.{◌≡◌, ◌+◌, ◌-◌, ◌++◌, length, map, take, drop, sym, ap, ◌∙◌, arith, append_assoc, length-append, length-take-le}
use Rattle.std.proofs.lemmas.List.{length-map, with_items_is}
use Rattle.lrlex_boundaries.specs.Ranges.{moved_place}
use Rattle.lrlex_boundaries.proofs.SliceLemmas.{moved_behind}
use Rattle.lrlex_boundaries.proofs.boundaries.put_places.Goals as goal
use borrow.Rule.Slice.PartMut.{put_mid}

pub returns : goal.returns
returns c =
    let f = moved_place c.args.from c.args.to in
    let old = c.args.places.now.items in
    let between = c.args.between.now in
    let xs = c.deref_mut.result.now in
    let n = c.args.first + length between in
    let front = take c.args.first old ++ between in
    let behind = drop c.args.last old in
    let long : length front ≡ n = omega (arith, length-append (take c.args.first old) between, length-take-le c.args.first old (omega arith)) in
    let parts : xs ≡ front ++ behind = c.deref_mut.ensures.value ∙ c.splice.ensures ∙ sym (append_assoc (take c.args.first old) between behind) in
    let moved : put_mid n (length xs - n) xs c.move_places.new.places ≡ front ++ map f behind = moved_behind f xs front behind c.move_places.new.places n parts long c.move_places.ensures in
    with_items_is c.splice.new.list (put_mid n (length xs - n) xs c.move_places.new.places)
    (omega (arith, ap length moved, length-append front (map f behind), length-map behind f, ap length parts, length-append front behind, c.deref_mut.ensures.len))
    ∙ moved ∙ append_assoc (take c.args.first old) between (map f behind)
