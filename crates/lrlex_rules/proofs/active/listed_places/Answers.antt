use Rattle.std.proofs.Common.{◌<◌, [], ◌∷◌, ◌++◌, ◌==◌, cond, drop, length, map, take, All, sym, ap, ap₂, subst, ◌∙◌, inl, inr, arith}
use Rattle.std.proofs.lemmas.Bool.{cases_lt}
use Rattle.std.proofs.lemmas.List.{length-map, length-take-le}
use Rattle.std.specs.List.{list_any}
use Rattle.lrlex_rules.specs.Active.{lists_state}
use Rattle.lrlex_rules.specs.RuleLists.{AreBelow, list_in}
use Rattle.lrlex_rules.specs.RuleParts.{as_rule}
use Rattle.lrlex_rules.proofs.ListLemmas.{list_in_past}
use Rattle.lrlex_rules.proofs.NotedLemmas.{places_below}
use Rattle.lrlex_rules.proofs.PlaceLemmas.{places_more}
use Rattle.lrlex_rules.proofs.ViewLemmas.{taken_back}
use Rattle.lrlex_rules.proofs.active.listed_places.Goals as goal

pub note_place-requires : goal.note_place-requires
note_place-requires g c =
    let lists = c.rules.lists.items in
    let r = c.rules.index in
    let before = take r c.args.rules.now in
    let below : AreBelow r (map (λ v. v.items) lists) = λ i. elim (cases_lt i c.args.count) [
      | inl lt ↦
          subst (All (λ k. k < r)) (sym (c.rules.invariant.listed i lt))
          (places_below (lists_state i) 0 r (map (as_rule (λ _. 0)) before) (omega (arith, length-map before (as_rule (λ _. 0)), length-take-le r c.args.rules.now (omega arith))))
      | inr past ↦ subst (All (λ k. k < r)) (sym (list_in_past lists i (omega (arith, c.rules.invariant.each, past)))) (λ k d within. absurd (omega arith))
    ] in
    subst (λ xs. AreBelow r (map (λ v. v.items) xs)) (sym c.deref_mut.ensures.value) below

pub rules-preserved : goal.rules-preserved
rules-preserved g c =
    let old = c.rules.lists.items in
    let new = c.note_place.new.lists in
    let k = c.rules.index in
    let r = c.index-rules-index.result in
    let value = c.deref_mut.ensures.value in
    let back = taken_back new (drop (length new) old) c.rules.lists.len (omega (arith, c.rules.lists.ok.0, c.in_ok-note_place.ensures.kept, ap length value)) in
    record {
      each = ap length back ∙ c.in_ok-note_place.ensures.kept ∙ ap length value ∙ c.rules.invariant.each;
      listed = λ i lt.
          ap (λ xs. list_in (map (λ v. v.items) xs) i) back
          ∙ c.in_ok-note_place.ensures.noted i (omega (arith, ap length value, c.rules.invariant.each, lt))
          ∙ ap₂ (λ xs ids. list_in (map (λ v. v.items) xs) i ++ cond (list_any (λ s. s == i) ids) (k ∷ []) []) value c.start_states.ensures
          ∙ ap (λ xs. xs ++ cond (lists_state i (as_rule (λ _. 0) r)) (k ∷ []) []) (c.rules.invariant.listed i lt)
          ∙ sym (places_more (lists_state i) (as_rule (λ _. 0)) c.args.rules.now k r (omega arith) c.index-rules-index.is);
    }
