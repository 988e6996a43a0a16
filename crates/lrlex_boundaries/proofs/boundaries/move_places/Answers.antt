use Rattle.std.proofs.Common.{◌≡◌, ◌+◌, ◌-◌, ◌<◌, ◌++◌, [], ◌∷◌, length, map, take, drop, get_or, sym, ap, ◌∙◌, arith, append_assoc, length-take-le}
use Rattle.std.proofs.lemmas.List.{drop_more, get_or_at, length-map, map_more, set_at}
use Rattle.std.proofs.Math.ListN.{set}
use Rattle.lrlex_boundaries.specs.Ranges.{moved_place}
use Rattle.lrlex_boundaries.proofs.boundaries.move_places.Goals as goal

pub loop-place-preserved : goal.loop-place-preserved
loop-place-preserved c =
    let f = moved_place c.args.from c.args.to in
    let ps = c.args.places.now in
    let i = c.loop-place.place-index in
    let lt : i < length ps = omega arith in
    let x = get_or ps i 0 in
    let front = map f (take i ps) in
    let rest = drop (i + 1) ps in
    let here : length front ≡ i = omega (arith, length-map (take i ps) f, length-take-le i ps (omega arith)) in
    let was : c.loop-place.places ≡ front ++ x ∷ rest = c.loop-place.invariant ∙ ap (λ xs. front ++ xs) (drop_more ps i 0 lt) in
    let at : get_or c.loop-place.places i 0 ≡ x = ap (λ xs. get_or xs i 0) was ∙ get_or_at front x rest 0 i here in
    let h = c.requires i 0 lt in
    let value : get_or c.loop-place.places i 0 - c.args.from + c.args.to ≡ f x = omega (arith, at, h.from) in
    ap (λ xs. set xs i (get_or c.loop-place.places i 0 - c.args.from + c.args.to)) was ∙ ap (set (front ++ x ∷ rest) i) value
    ∙ set_at front x rest (f x) i here ∙ sym (append_assoc front (f x ∷ []) rest) ∙ ap (λ xs. xs ++ rest) (sym (map_more f ps i 0 lt))
