-- Marks of rules by the places of a list, and which rules are active in some state.
use Rattle.std.proofs.Common.{◌≡◌, ℕ, zero, suc, ◌+◌, ◌<◌, ◌≤◌, ◌==◌, ◌||◌, Bool, true, false, cond, List, [], ◌∷◌, map, length, get_or, set, take, Vec, Global, Option, slice_get, unwrap_or, refl, sym, ap, ap₂, ◌∙◌, inl, inr, arith}
use Rattle.std.specs.List.{list_any}
use Rattle.std.proofs.Math.Bool.{or-true, or-false, or_assoc}
use Rattle.std.proofs.lemmas.Bool.{eq-eqb, ne_eqb}
use Rattle.std.proofs.lemmas.Bool.Decides.{eqb_tells}
use Rattle.std.proofs.lemmas.Grind.{get_or-set_at}
use Rattle.std.proofs.lemmas.List.{length-map, get_or-set_other}
use Rattle.std.proofs.lemmas.Option.{slice_get-get_or, slice_get_past}
use Rattle.std.proofs.lemmas.List.Folds.{list_any_more}
use Rattle.regex_hir.specs.Text.{is_some_and}
use Rattle.lrlex_rules.specs.Definition.{Rule, StartState}
use Rattle.lrlex_rules.specs.RuleParts.{as_rule, as_state}
use Rattle.lrlex_rules.specs.declared.states.StartState as start
use Rattle.lrlex_table.specs.Tables.{is_among}
use Rattle.lrlex_rules.specs.Active.{is_active, places_from, active_places, no_rule}
use Rattle.lrlex_definition.specs.Somewhere.{is_active_somewhere, stands_at}
use Rattle.lrlex_rules.specs.RuleLists.{list_in}
use Rattle.lrlex_definition.specs.RuleTable.{definition_by}
use Rattle.lrlex_definition.specs.declared.rule_table.RuleTable.{RuleTable}
use Rattle.lrlex_rules.proofs.PlaceLemmas.{active_places-by}
use Rattle.lrlex_rules.proofs.ViewLemmas.{list_any-map}

-- ---- one more mark

pub marked_at : (marks : List Bool) (place k : ℕ) → place < length marks → get_or (set marks place true) k false ≡ (get_or marks k false || (place == k))
marked_at marks place k lt = elim (eqb_tells place k) [
  | inl same ↦ get_or-set_at marks place k true false (sym same.1) lt ∙ sym (or-true (get_or marks k false)) ∙ ap (λ b. get_or marks k false || b) (sym same.0)
  | inr other ↦
      get_or-set_other marks place k true false (λ e. other.1 (sym e)) ∙ sym (or-false (get_or marks k false)) ∙ ap (λ b. get_or marks k false || b) (sym other.0)
]

pub marked_past : (marks : List Bool) (place k : ℕ) → k < length marks → length marks ≤ place → get_or marks k false ≡ (get_or marks k false || (place == k))
marked_past marks place k lt past = sym (or-false (get_or marks k false)) ∙ ap (λ b. get_or marks k false || b) (sym (ne_eqb place k (λ e. absurd (omega (arith, e, lt, past)))))

-- the marks are those of the first so many elements, beside those that were there at first
pub mark_more : (test : ℕ → ℕ → Bool) (init old new : List Bool) (xs : List ℕ) (at : ℕ) → at < length xs →
    (length old ≡ length init) × ((k : ℕ) → k < length init → get_or old k false ≡ (get_or init k false || list_any (test k) (take at xs))) →
    length new ≡ length old → ((k : ℕ) → k < length old → get_or new k false ≡ (get_or old k false || test k (get_or xs at 0))) →
    (length new ≡ length init) × ((k : ℕ) → k < length init → get_or new k false ≡ (get_or init k false || list_any (test k) (take (at + 1) xs)))
mark_more test init old new xs at lt before len step = (
  len ∙ before.0,
  λ k within.
      step k (omega (arith, before.0)) ∙ ap (λ b. b || test k (get_or xs at 0)) (before.1 k within)
      ∙ or_assoc (get_or init k false) (list_any (test k) (take at xs)) (test k (get_or xs at 0))
      ∙ ap (λ b. get_or init k false || b) (sym (list_any_more (test k) xs at 0 lt)),
)

-- the same where none was there
pub mark_all_more : (test : ℕ → ℕ → Bool) (n : ℕ) (old new : List Bool) (xs : List ℕ) (at : ℕ) → at < length xs →
    (length old ≡ n) × ((k : ℕ) → k < n → get_or old k false ≡ list_any (test k) (take at xs)) →
    length new ≡ length old → ((k : ℕ) → k < length old → get_or new k false ≡ (get_or old k false || test k (get_or xs at 0))) →
    (length new ≡ n) × ((k : ℕ) → k < n → get_or new k false ≡ list_any (test k) (take (at + 1) xs))
mark_all_more test n old new xs at lt before len step = (
  len ∙ before.0,
  λ k within. step k (omega (arith, before.0)) ∙ ap (λ b. b || test k (get_or xs at 0)) (before.1 k within) ∙ sym (list_any_more (test k) xs at 0 lt),
)

-- ---- places of a list

pub stands_within : (places : List ℕ) (k i : ℕ) → i < length places → stands_at places k i ≡ (get_or places i 0 == k)
stands_within places k i lt = ap (λ (o : Option ℕ). is_some_and o (λ p. p == k)) (slice_get-get_or places i 0 lt)

pub stands_past : (places : List ℕ) (k i : ℕ) → length places ≤ i → stands_at places k i ≡ false
stands_past places k i past = ap (λ (o : Option ℕ). is_some_and o (λ p. p == k)) (slice_get_past places i past)

-- ---- whether a place is among those of the rules that pass

-- one place more in front
module _ (p : Rule → Bool) where
  low_here : (m k : ℕ) (xs : List ℕ) → (k == m) ≡ false → list_any (λ j. j == m) xs ≡ false → (b : Bool) → list_any (λ j. j == m) (cond b (k ∷ xs) xs) ≡ false
  low_here m k xs other none true = ap (λ b. b || list_any (λ j. j == m) xs) other ∙ none
  low_here m k xs other none false = none

  -- no place is below the first
  none_below : (m k : ℕ) (rules : List Rule) → m < k → list_any (λ j. j == m) (places_from p k rules) ≡ false
  none_below m k [] lt = refl
  none_below m k (r ∷ rs) lt = low_here m k (places_from p (k + 1) rs) (ne_eqb k m (λ e. absurd (omega (arith, e, lt)))) (none_below m (k + 1) rs (omega arith)) (p r)

  first_here : (k : ℕ) (xs : List ℕ) → list_any (λ j. j == k) xs ≡ false → (b : Bool) → list_any (λ j. j == k) (cond b (k ∷ xs) xs) ≡ b
  first_here k xs none true = ap (λ b. b || list_any (λ j. j == k) xs) (eq-eqb k k refl)
  first_here k xs none false = none

  later_here : (m k : ℕ) (xs : List ℕ) (found : Bool) → (k == m) ≡ false → list_any (λ j. j == m) xs ≡ found → (b : Bool) → list_any (λ j. j == m) (cond b (k ∷ xs) xs) ≡ found
  later_here m k xs found other is true = ap (λ b. b || list_any (λ j. j == m) xs) other ∙ is
  later_here m k xs found other is false = is

  pub among_places : (k i : ℕ) (rules : List Rule) → list_any (λ j. j == k + i) (places_from p k rules) ≡ is_some_and (slice_get rules i) p
  among_places k i [] = refl
  among_places k zero (r ∷ rs) =
      let same : k + 0 ≡ k = omega arith in
      ap (λ m. list_any (λ j. j == m) (places_from p k (r ∷ rs))) same ∙ first_here k (places_from p (k + 1) rs) (none_below k (k + 1) rs (omega arith)) (p r)
  among_places k (suc i) (r ∷ rs) =
      let same : (k + 1) + i ≡ k + suc i = omega arith in
      later_here (k + suc i) k (places_from p (k + 1) rs) (is_some_and (slice_get rs i) p) (ne_eqb k (k + suc i) (λ e. absurd (omega (arith, e))))
      (ap (λ m. list_any (λ j. j == m) (places_from p (k + 1) rs)) (sym same) ∙ among_places (k + 1) i rs) (p r)

-- ---- rules that are active in some state

some_and : (p : Rule → Bool) (rules : List Rule) (k : ℕ) (none : Rule) → k < length rules → is_some_and (slice_get rules k) p ≡ p (unwrap_or (slice_get rules k) none)
some_and p rules k none lt = let at = slice_get-get_or rules k none lt in ap (λ (o : Option Rule). is_some_and o p) at ∙ ap (λ (o : Option Rule). p (unwrap_or o none)) (sym at)

pub among_active : (states : List StartState) (rules : List Rule) (q k : ℕ) → k < length rules → is_among (active_places states rules q) k ≡ is_active states q (unwrap_or (slice_get rules k) no_rule)
among_active states rules q k lt =
    let same : k ≡ 0 + k = omega arith in
    ap (λ m. list_any (λ j. j == m) (places_from (is_active states q) 0 rules)) same ∙ among_places (is_active states q) 0 k rules ∙ some_and (is_active states q) rules k no_rule lt

list_any-same : {A : Type 0} (p q : A → Bool) (xs : List A) → ((x : A) → p x ≡ q x) → list_any p xs ≡ list_any q xs
list_any-same p q [] same = refl
list_any-same p q (x ∷ xs) same = ap₂ (λ a b. a || b) (same x) (list_any-same p q xs same)

pub somewhere : {S : Type 0} (number : S → ℕ) (t : RuleTable S) (k : ℕ) → k < length t.rules.items →
    list_any (λ j. is_among (list_in (map (λ v. v.items) t.lists.items) j) k) t.list_at.items ≡ is_active_somewhere (definition_by number t) k
unfolding is_active_somewhere
somewhere number t k lt =
    let lists = map (λ (v : Vec ℕ Global). v.items) t.lists.items in
    let states = map as_state t.start_states.items in
    let plain = map (as_rule (λ x. 0)) t.rules.items in
    let rules = map (as_rule number) t.rules.items in
    let within : k < length rules = omega (arith, length-map t.rules.items (as_rule number)) in
    sym (list_any-map (list_in lists) (λ xs. is_among xs k) t.list_at.items)
    ∙ ap (list_any (λ xs. is_among xs k)) t.listed
    ∙ list_any-map (λ (s : start.StartState). active_places states plain (as_state s).id) (λ xs. is_among xs k) t.start_states.items
    ∙ list_any-same (λ (s : start.StartState). is_among (active_places states plain (as_state s).id) k) (λ (s : start.StartState). is_active states (as_state s).id (unwrap_or (slice_get rules k) no_rule)) t.start_states.items
    (λ s. ap (λ xs. is_among xs k) (active_places-by number states t.rules.items (as_state s).id) ∙ among_active states rules (as_state s).id k within)
    ∙ sym (list_any-map as_state (λ (s : StartState). is_active states s.id (unwrap_or (slice_get rules k) no_rule)) t.start_states.items)
