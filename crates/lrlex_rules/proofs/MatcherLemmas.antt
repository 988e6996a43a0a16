-- Matchers that are made as their rules are asked.
use Rattle.std.specs.declared.alloc.Global.{Global}
use Rattle.std.specs.Prelude.{Box}
use Rattle.std.proofs.Common.{◌≡◌, ℕ, ◌<◌, List, [], ◌∷◌, ◌++◌, length, get_or, Option, None, Some, slice_get, slice_set, sym, ap, ◌∙◌, subst, inl, inr, arith}
use Rattle.std.proofs.lemmas.Bool.{cases_eq, cases_lt}
use Rattle.std.proofs.lemmas.Option.{none-some, same_Some, slice_get-get_or, slice_get_within, get_or_from_slice_get}
use Rattle.std.proofs.lemmas.List.{length-set, length_push, get_or_append_left, get_or_push, get_or-set_same, get_or-set_other}
use Rattle.regex.specs.declared.string.matcher.Matcher.{Matcher}
use Rattle.lrlex_rules.specs.RuleParts.{RuleParts}
use Rattle.lrlex_rules.specs.Matchers.{IsMatcherOf, AreMatchers}

module _ {S : Type 0} (rules : List (RuleParts S)) (made : List (Option (Box Matcher Global))) where
  -- no matcher is made yet
  pub none_made : length made ≡ length rules → ((i : ℕ) (o : Option (Box Matcher Global)) → slice_get made i ≡ Some o → o ≡ None) → AreMatchers rules made
  none_made len none = (len, λ i r o at is m e. absurd (none-some m (sym (none i o is) ∙ e)))

  module _ (are : AreMatchers rules made) (place : ℕ) (r : RuleParts S) (at : slice_get rules place ≡ Some r) where
    pub matcher_within : place < length made
    matcher_within = omega (arith, are.0, slice_get_within rules place r at)

    pub matcher_at : (o : Option (Box Matcher Global)) → o ≡ get_or made place o → IsMatcherOf r o
    matcher_at o read = are.1 place r o at (slice_get-get_or made place o matcher_within ∙ ap Some (sym read))

    pub matchers_set : (o : Option (Box Matcher Global)) → IsMatcherOf r o → AreMatchers rules (slice_set made place o)
    matchers_set o is = (
      length-set made place o ∙ are.0,
      λ i s u found held. elim (cases_eq i place) [
        | inl here ↦
            let own : u ≡ o = sym (get_or_from_slice_get (slice_set made place o) i u None held) ∙ ap (λ j. get_or (slice_set made place o) j None) here ∙ get_or-set_same made place o None matcher_within in
            let rule : r ≡ s = same_Some _ _ (sym at ∙ ap (slice_get rules) (sym here) ∙ found) in
            subst (λ x. IsMatcherOf s x) (sym own) (subst (λ x. IsMatcherOf x o) rule is)
        | inr other ↦
            let within : i < length made = omega (arith, are.0, slice_get_within rules i s found) in
            are.1 i s u found
            (slice_get-get_or made i None within ∙ ap Some (sym (get_or-set_other made place i o None other) ∙ get_or_from_slice_get (slice_set made place o) i u None held))
      ],
    )

-- one more place with no matcher
pub nones_more : (made : List (Option (Box Matcher Global))) → ((i : ℕ) (o : Option (Box Matcher Global)) → slice_get made i ≡ Some o → o ≡ None) →
    (i : ℕ) (o : Option (Box Matcher Global)) → slice_get (made ++ None ∷ []) i ≡ Some o → o ≡ None
nones_more made none i o is = elim (cases_lt i (length made)) [
  | inl low ↦
      none i o
      (slice_get-get_or made i None low ∙ ap Some (sym (get_or_append_left made (None ∷ []) None i low))
      ∙ sym (slice_get-get_or (made ++ None ∷ []) i None (omega (arith, length_push {X = Option (Box Matcher Global)} made None))) ∙ is)
  | inr high ↦
      let within : i < length (made ++ None ∷ []) = slice_get_within (made ++ None ∷ []) i o is in
      let e : length made ≡ i = omega (arith, length_push {X = Option (Box Matcher Global)} made None) in
      sym (get_or_from_slice_get (made ++ None ∷ []) i o None is) ∙ get_or_push made None None i e
]
