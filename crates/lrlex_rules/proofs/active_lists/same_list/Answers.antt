use Rattle.std.proofs.Common.{◌≡◌, [], map, length, option_map, refl, sym, ap, ◌∙◌, arith}
use Rattle.std.proofs.lemmas.Slice.Eq.{bytes_eq-Decides}
use Rattle.std.proofs.lemmas.Option.{slice_get-map, slice_get_read, get_or_from_slice_get}
use Rattle.lrlex_rules.specs.RuleLists.{list_in}
use Rattle.lrlex_rules.proofs.active_lists.same_list.Goals as goal

pub returns-then-eq-clause-same : goal.returns-then-eq-clause-same
returns-then-eq-clause-same c =
    let of = c.args.lists.now in
    let lists = map (λ v. v.items) of in
    let held = c.index-lists-index.result in
    let index = c.in_ok-index.field-0.now in
    let same = (bytes_eq-Decides c.as_slice.result.now c.args.places.now).0 (sym c.eq.ensures ∙ c.if-eq.true) in
    let here : list_in lists index ≡ held.items = get_or_from_slice_get lists index held.items [] (slice_get-map (λ v. v.items) of index ∙ ap (option_map (λ v. v.items)) (slice_get_read of (length of) index held refl (omega arith) c.index-lists-index.is)) in
    here ∙ sym c.as_slice.ensures.value ∙ same
