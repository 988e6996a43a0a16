-- What a walk through the table says of the winner.
use Rattle.std.proofs.Common.{◌≡◌, ℕ, ◌+◌, ◌-◌, ◌<◌, ◌≤◌, List, [], ◌∷◌, length, Option, None, Some, slice_index_or, refl, sym, ◌∙◌, subst, inl, inr, arith, le-leb}
use Rattle.std.proofs.lemmas.Bool.{cond-true, cases_lt}
use Rattle.std.proofs.lemmas.Option.{none-some, same_Some}
use Rattle.regex_nfa.specs.declared.nfa.Nfa.{Nfa}
use Rattle.regex_dfa.specs.Moves.{first_end}
use Rattle.regex_dfa.specs.Links.{Links, best}
use Rattle.regex_dfa.specs.Search.{end_from}
use Rattle.regex_dfa.proofs.EndsLemmas.{bounded, solves_bounded, outcome_of_one}
use Rattle.regex.specs.Patterns.{Re}
use Rattle.lrlex_matching.specs.Matching.{match_length}
use Rattle.lrlex_matching.proofs.ForCallers.{length_cuts, length_within}
use Rattle.lrlex_table.proofs.PrefixLemmas.{alike_past}
use Rattle.lrlex_table.specs.Table.{EndsAsTable, EndsInRow, Leads, Measures, pattern_at, Serves, IsLongest, NoneMatches}
use Rattle.lrlex_table.specs.Reach.{IsText, BeginsAlike, IsDecidedBy}

-- the match of a pattern ends where its number says
end_of_links : (nfa : Nfa) (hay : List ℕ) (q j last : ℕ) → j ≤ length hay + 1 → Links nfa hay 0 (q ∷ []) 0 j [] last → end_from nfa hay (length hay) q 0 ≡ best last
unfolding Links first_end
end_of_links nfa hay q j last le links =
    sym (outcome_of_one q (bounded nfa hay (length hay) 0) ∙ cond-true _ (end_from nfa hay (length hay) q 0) None (le-leb 0 (length hay) (omega arith)))
    ∙ links (bounded nfa hay (length hay)) (λ k low high. solves_bounded nfa hay (length hay) k (omega arith))

length_is : (nfa : Nfa) (re : Re) (text qs : List ℕ) (j last : ℕ) → Measures nfa re → IsText text → j ≤ length text + 1 → qs ≡ nfa.start ∷ [] →
    Links nfa text 0 qs 0 j [] last → match_length re text ≡ last - 1
unfolding Measures
length_is nfa re text qs j last measures is le starts links =
    measures text is.bytes is.utf8 last (end_of_links nfa text nfa.start j last le (subst (λ xs. Links nfa text 0 xs 0 j [] last) starts links))

-- what decides how much each pattern matches decides who wins
pub decided_of_matches : (ps : List Re) (text : List ℕ) (reach : ℕ) →
    ((other : List ℕ) → IsText other → BeginsAlike reach text other → (k : ℕ) → k < length ps → match_length (pattern_at ps k) other ≡ match_length (pattern_at ps k) text) →
    IsDecidedBy ps text reach
decided_of_matches ps text reach matches = record {
  matches = matches;
  wins = λ other also same k n l.
      let takes : match_length (pattern_at ps k) other ≡ n = matches other also same k l.within ∙ l.takes in
      record {
        some = l.some;
        within = l.within;
        takes = takes;
        greatest = λ j lt. omega (arith, matches other also same j lt, l.greatest j lt);
        earliest = λ j lt. omega (arith, matches other also same j (omega (arith, l.within)), l.earliest j lt);
        cuts = length_cuts (pattern_at ps k) other n takes l.some (omega (arith, takes, length_within (pattern_at ps k) other));
      };
  none = λ other also same none k lt. matches other also same k lt ∙ none k lt;
}

module _ (next : List ℕ) (wins : List (Option ℕ)) (start : ℕ) (ps : List Re) (text : List ℕ) (reach top w : ℕ) (serves : Serves next wins start ps)
    (ends : EndsAsTable next wins start text reach top w) (within : reach ≤ length text + 1) (is : IsText text) where
  -- how far the walk says that each pattern matches
  last : ℕ → ℕ
  last = (ends (length ps) serves.nfa serves.threads serves.matched (serves.table text is.bytes)).0

  leads : Leads (length ps) last top w reach
  unfolding last
  leads = (ends (length ps) serves.nfa serves.threads serves.matched (serves.table text is.bytes)).1

  -- and so far it does, in each text that begins alike
  takes : (other : List ℕ) → IsText other → BeginsAlike reach text other → (k : ℕ) → k < length ps → match_length (pattern_at ps k) other ≡ last k - 1
  unfolding last
  takes other also same k lt =
      length_is (serves.nfa k) (pattern_at ps k) other (serves.threads start k) reach (last k) (serves.measures k lt) also (alike_past reach text other within same) (serves.begins k lt)
      ((ends (length ps) serves.nfa serves.threads serves.matched (serves.table text is.bytes)).2 other (serves.table other also.bytes) same k lt)

  -- what the walk finds is the longest match
  winner_of_walk : (top ≤ 1 → NoneMatches ps text) × (1 < top → IsLongest ps text w (top - 1))
  winner_of_walk = (
    λ few k lt. omega (arith, takes text is refl k lt, leads.most k lt),
    λ more. record {
      some = omega arith;
      within = (leads.is (omega arith)).0;
      takes = let won = leads.is (omega arith) in omega (arith, takes text is refl w won.0, won.1);
      greatest = λ k lt. omega (arith, takes text is refl k lt, leads.most k lt);
      cuts = let won = leads.is (omega arith) in
          length_cuts (pattern_at ps w) text (top - 1) (omega (arith, takes text is refl w won.0, won.1)) (omega arith) (omega (arith, leads.past, within));
      earliest = λ k lt. let won = leads.is (omega arith) in omega (arith, takes text is refl k (omega (arith, won.0)), leads.first (omega arith) k lt);
    },
  )

  matches_alike : (other : List ℕ) → IsText other → BeginsAlike reach text other → (k : ℕ) → k < length ps → match_length (pattern_at ps k) other ≡ match_length (pattern_at ps k) text
  matches_alike other also same k lt = takes other also same k lt ∙ sym (takes text is refl k lt)

  -- the bytes up to the reach decide
  decided_by_walk : IsDecidedBy ps text reach
  decided_by_walk = decided_of_matches ps text reach matches_alike

module _ (next : List ℕ) (wins : List (Option ℕ)) (start : ℕ) (ps : List Re) (text : List ℕ) (reach n row : ℕ) (serves : Serves next wins start ps)
    (ends : EndsInRow next wins start text reach n row) (within : reach ≤ length text + 1) (is : IsText text) where
  pub none_in_row : slice_index_or wins row None ≡ None → NoneMatches ps text
  none_in_row bare = (winner_of_walk next wins start ps text reach ends.top ends.pattern serves ends.ends within is).0 (elim (cases_lt 0 n) [
    | inl some ↦ absurd (none-some _ (sym bare ∙ ends.some some))
    | inr none ↦ omega (arith, ends.bytes)
  ])

  pub longest_in_row : (k : ℕ) → slice_index_or wins row None ≡ Some k → IsLongest ps text k n
  longest_in_row k won = elim (cases_lt 0 n) [
    | inl some ↦
        let best = (winner_of_walk next wins start ps text reach ends.top ends.pattern serves ends.ends within is).1 (omega (arith, ends.bytes)) in
        subst (λ m. IsLongest ps text k m) (sym ends.bytes)
        (subst (λ i. IsLongest ps text i (ends.top - 1)) (same_Some _ _ (sym (ends.some some) ∙ won)) best)
    | inr none ↦ absurd (none-some _ (sym (ends.none (omega arith)) ∙ won))
  ]

  pub decided_in_row : IsDecidedBy ps text reach
  decided_in_row = decided_by_walk next wins start ps text reach ends.top ends.pattern serves ends.ends within is
