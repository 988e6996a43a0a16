-- What the tables of a state and the answers of the other rules say together: the best of them wins.
use Rattle.std.proofs.Common.{◌≡◌, ℕ, zero, suc, ◌+◌, ◌-◌, ◌<◌, ◌≤◌, ◌⊎◌, ◌||◌, Bool, true, false, List, [], ◌∷◌, length, map, take, get_or, Option, None, Some, option_map, unwrap_or, slice_get, MatchOption, IsCharBoundary, ◌==◌, refl, sym, ap, ◌∙◌, subst, inl, inr, arith}
use Rattle.std.proofs.Props.{props}
use Rattle.std.proofs.Math.Logic.{∥∥₁_elim}
use Rattle.std.proofs.lemmas.Bool.{cases_lt, eqb-true}
use Rattle.std.proofs.lemmas.Option.{MatchOption-at_some, MatchOption-at_none, slice_get-map, slice_get-get_or, get_or_from_slice_get}
use Rattle.std.proofs.lemmas.List.{length-map, take_all}
use Rattle.std.proofs.lemmas.List.Folds.{list_any_more}
use Rattle.regex_hir.specs.Text.{is_some_and}
use Rattle.regex.specs.Patterns.{Re, empty}
use Rattle.lrlex_rules.specs.Definition.{Definition, Rule}
use Rattle.lrlex_matching.specs.Matching.{match_length}
use Rattle.lrlex_rules.specs.Patterns.{pattern_of}
use Rattle.lrlex_rules.specs.RuleParts.{RuleParts, as_rule}
use Rattle.lrlex_rules.specs.declared.states.StartState as start
use Rattle.lrlex_table.specs.Table.{pattern_at, IsLongest, NoneMatches}
use Rattle.lrlex_table.specs.Tables.{is_among, is_tabled, AreRising, AreTablesOf, IsBestAmong}
use Rattle.lrlex_table.specs.declared.merged_tables.Part.{Part}
use Rattle.lrlex_table.specs.declared.tables.Tables.{Tables}
use Rattle.lrlex_table.specs.declared.walk.PatternMatch.{PatternMatch}
use Rattle.lrlex_definition.specs.StateTables.{pattern_in, patterns_on}
use Rattle.lrlex_rules.specs.Active.{is_active, active_places, taken, taken_by_any, rule_at, no_rule}
use Rattle.lrlex_rules.specs.Tiling.{Wins, IsStuck}
use Rattle.lrlex_rules.proofs.BestLemmas.{Wins-of_IsBest, IsStuck-of_IsBest}
use Rattle.lrlex_rules.proofs.ScanLemmas.{IsScanned, IsScanned-none, IsScanned-kept, IsScanned-taken, scanned_all, passes, place_within}
use Rattle.lrlex_rules.proofs.ViewLemmas.{taken_active, rule_at_place}

-- the patterns of the rules at these places
abbrev pub patterns_at : Definition → List ℕ → List Re
patterns_at d places = map (λ i. pattern_of (rule_at d i)) places

takes_active : (d : Definition) (q : ℕ) (text : List ℕ) (o : Option Rule) → is_some_and o (is_active d.states q) ≡ true →
    taken_by_any d q text o ≡ match_length (pattern_of (unwrap_or o no_rule)) text
takes_active d q text None h = cc
takes_active d q text (Some r) h = taken_active d q text (Some r) r h refl

at_place : (d : Definition) (places : List ℕ) (i : ℕ) → i < length places → pattern_at (patterns_at d places) i ≡ pattern_of (rule_at d (get_or places i 0))
at_place d places i lt =
    get_or_from_slice_get (patterns_at d places) i (pattern_of (rule_at d (get_or places i 0))) empty
    (slice_get-map (λ j. pattern_of (rule_at d j)) places i ∙ ap (option_map (λ j. pattern_of (rule_at d j))) (slice_get-get_or places i 0 lt))

module _ (d : Definition) (q : ℕ) (text places : List ℕ) (are : places ≡ active_places d.states d.rules q) where
  takes_at : (i k n : ℕ) → IsScanned d q text places i k n → i < length places →
      taken d q text (get_or places i 0) ≡ match_length (pattern_at (patterns_at d places) i) text
  takes_at i k n s lt =
      takes_active d q text (slice_get d.rules (get_or places i 0)) (passes d q text places i k n (get_or places i 0) s lt refl)
      ∙ ap (λ re. match_length re text) (sym (at_place d places i lt))

  -- the scan before the winner
  before : (k n : ℕ) → IsLongest (patterns_at d places) text k n → (i : ℕ) → i ≤ k → (b : ℕ) × (m : ℕ) × (m < n) × IsScanned d q text places i b m
  before k n l zero le = (0, 0, l.some, IsScanned-none d q text places are)
  before k n l (suc i) le =
      let s = before k n l i (omega arith) in
      let lt : i < length places = omega (arith, l.within, length-map places (λ j. pattern_of (rule_at d j))) in
      let takes = takes_at i s.0 s.1 s.3 lt in
      let place = get_or places i 0 in
      let next : i + 1 ≡ suc i = omega arith in
      elim (cases_lt s.1 (taken d q text place)) [
        | inl more ↦ (
          place,
          taken d q text place,
          omega (arith, takes, l.earliest i (omega arith)),
          subst (λ j. IsScanned d q text places j place (taken d q text place)) next (IsScanned-taken d q text places i s.0 s.1 place s.3 lt refl (taken d q text place) refl more),
        )
        | inr less ↦ (s.0, s.1, s.2, subst (λ j. IsScanned d q text places j s.0 s.1) next (IsScanned-kept d q text places i s.0 s.1 place s.3 lt refl less))
      ]

  -- and after it
  after : (k n : ℕ) → IsLongest (patterns_at d places) text k n → (m : ℕ) → k + 1 + m ≤ length places → IsScanned d q text places (k + 1 + m) (get_or places k 0) n
  after k n l zero le =
      let s = before k n l k (omega arith) in
      let at : k + 1 ≡ k + 1 + zero = omega arith in
      let takes = takes_at k s.0 s.1 s.3 (omega arith) in
      subst (λ j. IsScanned d q text places j (get_or places k 0) n) at
      (IsScanned-taken d q text places k s.0 s.1 (get_or places k 0) s.3 (omega arith) refl n (takes ∙ l.takes) s.2)
  after k n l (suc m) le =
      let s = after k n l m (omega arith) in
      let i = k + 1 + m in
      let lt : i < length places = omega arith in
      let takes = takes_at i (get_or places k 0) n s lt in
      let at : i + 1 ≡ k + 1 + suc m = omega arith in
      subst (λ j. IsScanned d q text places j (get_or places k 0) n) at
      (IsScanned-kept d q text places i (get_or places k 0) n (get_or places i 0) s lt refl (omega (arith, takes, l.greatest i (omega (arith, length-map places (λ j. pattern_of (rule_at d j)))))))

  pub longest_wins : (k n : ℕ) → IsLongest (patterns_at d places) text k n → Wins d q text (get_or places k 0) n
  longest_wins k n l =
      let within : k < length places = omega (arith, l.within, length-map places (λ j. pattern_of (rule_at d j))) in
      let rest : ℕ = length places - (k + 1) in
      Wins-of_IsBest d q text (get_or places k 0) n (scanned_all d q text places (k + 1 + rest) (get_or places k 0) n (after k n l rest (omega arith)) (omega arith)) l.some

  none : NoneMatches (patterns_at d places) text → (i : ℕ) → i ≤ length places → IsScanned d q text places i 0 0
  none zeros zero le = IsScanned-none d q text places are
  none zeros (suc i) le =
      let s = none zeros i (omega arith) in
      let lt : i < length places = omega arith in
      let takes = takes_at i 0 0 s lt in
      let next : i + 1 ≡ suc i = omega arith in
      subst (λ j. IsScanned d q text places j 0 0) next
      (IsScanned-kept d q text places i 0 0 (get_or places i 0) s lt refl (omega (arith, takes, zeros i (omega (arith, length-map places (λ j. pattern_of (rule_at d j)))))))

  pub none_stuck : NoneMatches (patterns_at d places) text → IsStuck d q text
  none_stuck zeros = IsStuck-of_IsBest d q text 0 0 (scanned_all d q text places (length places) 0 0 (none zeros (length places) (omega arith)) (omega arith)) refl

-- ---- the places of active rules

module _ (d : Definition) (q : ℕ) (places : List ℕ) (are : places ≡ active_places d.states d.rules q) where
  scanned_at : (i : ℕ) → i ≤ length places → (b : ℕ) × (m : ℕ) × IsScanned d q [] places i b m
  scanned_at zero le = (0, 0, IsScanned-none d q [] places are)
  scanned_at (suc i) le =
      let s = scanned_at i (omega arith) in
      let lt : i < length places = omega arith in
      let place = get_or places i 0 in
      let next : i + 1 ≡ suc i = omega arith in
      elim (cases_lt s.1 (taken d q [] place)) [
        | inl more ↦ (
          place,
          taken d q [] place,
          subst (λ j. IsScanned d q [] places j place (taken d q [] place)) next (IsScanned-taken d q [] places i s.0 s.1 place s.2 lt refl (taken d q [] place) refl more),
        )
        | inr less ↦ (s.0, s.1, subst (λ j. IsScanned d q [] places j s.0 s.1) next (IsScanned-kept d q [] places i s.0 s.1 place s.2 lt refl less))
      ]

  -- they are places of rules
  pub active_within : (i : ℕ) → i < length places → get_or places i 0 < length d.rules
  active_within i lt = let s = scanned_at i (omega arith) in place_within d q [] places i s.0 s.1 (get_or places i 0) s.2 lt refl

-- ---- the best among some rules

pub best_prop : (ps : List Re) (among : ℕ → Bool) (text : List ℕ) (k n : ℕ) → IsProp (IsBestAmong ps among text k n)
best_prop ps among text k n = Prim.hlevel props

module _ (ps : List Re) (text : List ℕ) where
  pub best_less : (a b : ℕ → Bool) → ((j : ℕ) → b j ≡ true → a j ≡ true) → (k n : ℕ) → IsBestAmong ps a text k n → IsBestAmong ps b text k n
  best_less a b less k n best = record {
    most = λ j lt h. best.most j lt (less j h);
    takes = best.takes;
    first = λ some j lt h. best.first some j lt (less j h);
    within = best.within;
    cuts = best.cuts;
  }

  module _ (a b : ℕ → Bool) (x : ℕ) (more : (j : ℕ) → b j ≡ true → (a j ≡ true) ⊎ (x ≡ j)) (k n : ℕ) (best : IsBestAmong ps a text k n) where
    pub best_kept : match_length (pattern_at ps x) text ≤ n → (match_length (pattern_at ps x) text ≡ n → k ≤ x) → IsBestAmong ps b text k n
    best_kept le later = record {
      most = λ j lt h. elim (more j h) [
        | inl old ↦ best.most j lt old
        | inr here ↦ subst (λ i. match_length (pattern_at ps i) text ≤ n) here le
      ];
      takes = best.takes;
      first = λ some j lt h. elim (more j h) [
        | inl old ↦ best.first some j lt old
        | inr here ↦ subst (λ i. match_length (pattern_at ps i) text < n) here (elim (cases_lt (match_length (pattern_at ps x) text) n) [
          | inl less ↦ less
          | inr ge ↦ absurd (omega (arith, later (omega (arith, le, ge)), lt, here))
        ])
      ];
      within = best.within;
      cuts = best.cuts;
    }

    pub best_taken : (m : ℕ) → m ≡ match_length (pattern_at ps x) text → x < length ps → IsCharBoundary text m → (n < m) ⊎ ((m ≡ n) × (x < k)) → IsBestAmong ps b text x m
    best_taken m is inside cut better = record {
      most = λ j lt h. elim (more j h) [
        | inl old ↦ let all = best.most j lt old in elim better [ inl gt ↦ omega arith | inr tie ↦ omega (arith, tie.0) ]
        | inr here ↦ subst (λ i. match_length (pattern_at ps i) text ≤ m) here (omega arith)
      ];
      takes = λ some. sym is;
      first = λ some j lt h. elim (more j h) [
        | inl old ↦ elim better [
          | inl gt ↦ let all = best.most j (omega arith) old in omega arith
          | inr tie ↦ let all = best.first (omega (arith, tie.0)) j (omega (arith, tie.1)) old in omega (arith, tie.0)
        ]
        | inr here ↦ absurd (omega (arith, here))
      ];
      within = λ some. inside;
      cuts = cut;
    }

  pub longest_of : (among : ℕ → Bool) → ((j : ℕ) → j < length ps → among j ≡ true) → (k n : ℕ) → IsBestAmong ps among text k n → 0 < n → IsLongest ps text k n
  longest_of among all k n best some = record {
    some = some;
    within = best.within some;
    takes = best.takes some;
    greatest = λ j lt. best.most j lt (all j lt);
    earliest = λ j lt. let inside : j < length ps = omega (arith, best.within some) in best.first some j lt (all j inside);
    cuts = best.cuts;
  }

  pub none_of : (among : ℕ → Bool) → ((j : ℕ) → j < length ps → among j ≡ true) → (k n : ℕ) → IsBestAmong ps among text k n → n ≡ 0 → NoneMatches ps text
  none_of among all k n best nothing j lt = omega (arith, best.most j lt (all j lt))

-- ---- the rules that are looked at

-- those that have a table, and the first i of the others
abbrev pub looked_at : List Part → List ℕ → ℕ → ℕ → Bool
looked_at parts others i k = is_tabled parts k || is_among (take i others) k

or_split : (a b : Bool) → (a || b) ≡ true → (a ≡ true) ⊎ (b ≡ true)
or_split true b h = inl refl
or_split false b h = inr h

or_left : (a b : Bool) → a ≡ true → (a || b) ≡ true
or_left true b h = refl
or_left false b h = cc

or_right : (a b : Bool) → (a ≡ false → b ≡ true) → (a || b) ≡ true
or_right true b h = refl
or_right false b h = h refl

pub looked_none : (parts : List Part) (others : List ℕ) (k : ℕ) → looked_at parts others 0 k ≡ true → is_tabled parts k ≡ true
looked_none parts others k h = elim (or_split (is_tabled parts k) false h) [ inl tabled ↦ tabled | inr other ↦ cc ]

regroup : (a b c : Bool) → (a || (b || c)) ≡ true → ((a || b) ≡ true) ⊎ (c ≡ true)
regroup true b c h = inl refl
regroup false true c h = inl refl
regroup false false c h = inr h

pub looked_more : (parts : List Part) (others : List ℕ) (i k : ℕ) → i < length others → looked_at parts others (i + 1) k ≡ true →
    (looked_at parts others i k ≡ true) ⊎ (get_or others i 0 ≡ k)
looked_more parts others i k lt h =
    let split = list_any_more (λ j. j == k) others i 0 lt in
    elim (regroup (is_tabled parts k) (is_among (take i others) k) (get_or others i 0 == k) (sym (ap (λ b. is_tabled parts k || b) split) ∙ h)) [
      | inl old ↦ inl old
      | inr here ↦ inr (eqb-true (get_or others i 0) k here)
    ]

rising_within : (lo hi : ℕ) (xs : List ℕ) → AreRising lo hi xs → (i : ℕ) → i < length xs → get_or xs i 0 < hi
rising_within lo hi [] h i lt = absurd (omega arith)
rising_within lo hi (x ∷ xs) h zero lt = omega (arith, rising_len (x + 1) hi xs h.1)
  where
    rising_len : (lo hi : ℕ) (xs : List ℕ) → AreRising lo hi xs → lo ≤ hi
    rising_len lo hi [] h = h
    rising_len lo hi (y ∷ ys) h = omega (arith, h.0, rising_len (y + 1) hi ys h.1)
rising_within lo hi (x ∷ xs) h (suc i) lt = rising_within (x + 1) hi xs h.1 i (omega arith)

rising_few : (lo hi : ℕ) (xs : List ℕ) → AreRising lo hi xs → lo + length xs ≤ hi
rising_few lo hi [] h = omega (arith, h)
rising_few lo hi (x ∷ xs) h = omega (arith, h.0, rising_few (x + 1) hi xs h.1)

lt_prop : (a b : ℕ) → IsProp (a < b)
lt_prop a b = Prim.hlevel props

le_prop : (a b : ℕ) → IsProp (a ≤ b)
le_prop a b = Prim.hlevel props

true_prop : (b : Bool) → IsProp (b ≡ true)
true_prop b = Prim.hlevel props

module _ (d : Definition) (q : ℕ) (text places others : List ℕ) (are : places ≡ active_places d.states d.rules q) (t : Tables) (listed : others ≡ t.asked.items)
    (served : ∥ AreTablesOf (patterns_on d.rules (active_places d.states d.rules q)) t ∥₁) where
  abbrev pub here : List Re
  here = patterns_on d.rules places

  count : length (patterns_on d.rules (active_places d.states d.rules q)) ≡ length places
  count = length-map (active_places d.states d.rules q) (pattern_in d.rules) ∙ ap length (sym are)

  pub other_within : (i : ℕ) → i < length others → get_or others i 0 < length places
  other_within i lt =
      ∥∥₁_elim served (lt_prop _ _) (λ s.
      omega (arith, count, subst (λ xs. get_or xs i 0 < length (patterns_on d.rules (active_places d.states d.rules q))) (sym listed) (rising_within 0 _ t.asked.items s.rises i (subst (λ xs. i < length xs) listed lt))))

  pub others_few : length others ≤ length places
  others_few = ∥∥₁_elim served (le_prop _ _) (λ s. omega (arith, count, ap length listed, rising_few 0 _ t.asked.items s.rises))

  -- all are looked at in the end
  pub looked_all : (n : ℕ) → length others ≤ n → (k : ℕ) → k < length here → looked_at t.parts.items others n k ≡ true
  looked_all n le k lt =
      ∥∥₁_elim served (true_prop _) (λ s.
      or_right (is_tabled t.parts.items k) (is_among (take n others) k) (λ bare.
      ap (λ xs. is_among xs k) (take_all n others le ∙ listed) ∙ s.each k (omega arith) (omega (arith, count, length-map places (pattern_in d.rules))) bare))

  module _ (o : Option PatternMatch)
      (answers : (ps : List Re) → AreTablesOf ps t → MatchOption o (IsBestAmong ps (is_tabled t.parts.items) text 0 0) (λ w. (0 < w.len) × IsBestAmong ps (is_tabled t.parts.items) text w.pattern w.len)) where
    served_here : ∥ AreTablesOf here t ∥₁
    served_here = subst (λ xs. ∥ AreTablesOf (patterns_on d.rules xs) t ∥₁) (sym are) served

    pub told_none : o ≡ None → IsBestAmong here (looked_at t.parts.items others 0) text 0 0
    told_none e =
        best_less here text (is_tabled t.parts.items) (looked_at t.parts.items others 0) (looked_none t.parts.items others) 0 0
        (∥∥₁_elim served_here (best_prop here (is_tabled t.parts.items) text 0 0) (λ s. MatchOption-at_none (IsBestAmong here (is_tabled t.parts.items) text 0 0) (λ (w : PatternMatch). (0 < w.len) × IsBestAmong here (is_tabled t.parts.items) text w.pattern w.len) e (answers here s)))

    pub told_some : (w : PatternMatch) → o ≡ Some w → IsBestAmong here (looked_at t.parts.items others 0) text w.pattern w.len
    told_some w e =
        best_less here text (is_tabled t.parts.items) (looked_at t.parts.items others 0) (looked_none t.parts.items others) w.pattern w.len
        (∥∥₁_elim served_here (best_prop here (is_tabled t.parts.items) text w.pattern w.len) (λ s. (MatchOption-at_some (IsBestAmong here (is_tabled t.parts.items) text 0 0) (λ (w : PatternMatch). (0 < w.len) × IsBestAmong here (is_tabled t.parts.items) text w.pattern w.len) w e (answers here s)).1))

    pub told_bytes : (w : PatternMatch) → o ≡ Some w → 0 < w.len
    told_bytes w e =
        ∥∥₁_elim served_here (lt_prop _ _) (λ s. (MatchOption-at_some (IsBestAmong here (is_tabled t.parts.items) text 0 0) (λ (w : PatternMatch). (0 < w.len) × IsBestAmong here (is_tabled t.parts.items) text w.pattern w.len) w e (answers here s)).0)

  module _ (n k len : ℕ) (past : length others ≤ n) (best : IsBestAmong here (looked_at t.parts.items others n) text k len) where
    pub best_wins : 0 < len → Wins d q text (get_or places k 0) len
    best_wins some = longest_wins d q text places are k len (longest_of here text (looked_at t.parts.items others n) (looked_all n past) k len best some)

    pub best_stuck : len ≡ 0 → IsStuck d q text
    best_stuck none = none_stuck d q text places are (none_of here text (looked_at t.parts.items others n) (looked_all n past) k len best none)

-- what a rule of the program matches, and its pattern among those of the active rules
pub asked_is : {S : Type 0} (number : S → ℕ) (d : Definition) (rules : List (RuleParts S)) → d.rules ≡ map (as_rule number) rules → (places text : List ℕ) (k place n : ℕ) (r : RuleParts S) →
    k < length places → place ≡ get_or places k 0 → place < length rules → r ≡ get_or rules place r →
    n ≡ match_length (pattern_of (as_rule number r)) text → n ≡ match_length (pattern_at (patterns_on d.rules places) k) text
asked_is number d rules same places text k place n r lt at within read is =
    is ∙ ap (λ re. match_length re text)
    (sym (at_place d places k lt ∙ ap (λ i. pattern_of (rule_at d i)) (sym at) ∙ ap (λ rs. pattern_of (unwrap_or (slice_get rs place) no_rule)) same ∙ ap (λ o. pattern_of (unwrap_or o no_rule)) (rule_at_place number rules place r within read)))
