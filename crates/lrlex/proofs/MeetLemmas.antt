-- A run that meets the old one, in whole.
use Rattle.std.proofs.Common.{◌≡◌, ◌≢◌, ℕ, zero, suc, ◌+◌, ◌-◌, ◌^◌, ◌<◌, ◌≤◌, List, [], ◌∷◌, ◌++◌, length, map, take, drop, get_or, Some, slice_get, refl, sym, ap, ◌∙◌, subst, inl, inr, arith, All, append_assoc, ◌*◌, length-append}
use Rattle.std.specs.List.{sum_by}
use Rattle.std.proofs.lemmas.Bool.{cases_lt}
use Rattle.std.proofs.lemmas.List.{length-drop, length-map, get_or-drop, get_or-map, map-append}
use Rattle.std.proofs.lemmas.List.Sums.{sum_by-append}
use Rattle.std.proofs.lemmas.Option.{slice_get-get_or, get_or_from_slice_get, slice_get_within, same_Some}
use Rattle.std.proofs.Math.Nat.{mul-le-mul_right}
use Rattle.lrlex_rules.specs.Definition.{Definition}
use Rattle.lrlex_rules.specs.Tiling.{Item, boundaries, rebased, asked_at}
use Rattle.lrlex_boundaries.specs.Entries.{plain}
use Rattle.lrlex_boundaries.specs.Boundaries.{Boundary, place_and_stack, no_boundary, boundary_at}
use Rattle.lrlex_boundaries.specs.Moves.{IsMovableBoundary, moved_boundary, Meets}
use Rattle.lrlex.specs.Moves.{IsMovable, items_from}
use Rattle.lrlex.specs.Reach.{Reached, IsLexed, searches}
use Rattle.lrlex.specs.Lookahead.{IsSafe}
use Rattle.lrlex.proofs.TailLemmas.{tail_tiling}
use Rattle.lrlex_base.specs.Spans.{span}
use Rattle.lrlex_base.specs.Edits.{edited}
use Rattle.lrlex.proofs.EditLemmas.{drop-edited}
use Rattle.lrlex.proofs.SpliceLemmas.{AtBoundary, at_bound, tail_items, spliced}
use Rattle.lrlex.proofs.WithinLemmas.{IsWithin, items_within, all_movable, bounds_within}
use Rattle.lrlex.proofs.KnownLemmas.{sorted}
use Rattle.lrlex.proofs.ReachLemmas.{length_now, searches-few}

get_or_any : (xs : List Boundary) (k : ℕ) (x y : Boundary) → k < length xs → get_or xs k x ≡ get_or xs k y
get_or_any [] k x y h = absurd (omega arith)
get_or_any (z ∷ xs) zero x y h = refl
get_or_any (z ∷ xs) (suc k) x y h = get_or_any xs k x y (omega arith)

module _ (d : Definition) (old new : List ℕ) (low high : ℕ) (put : List ℕ) (old_found : List Item) (olds : List Boundary) (h : IsLexed d old old_found olds)
    (q : ℕ) (stack : List (ℕ × ℕ)) (found : List Item) (bounds : List Boundary) (asked : ℕ) (r : Reached d new q stack found bounds asked)
    (j : ℕ) (within : j < length olds) (ordered : low ≤ high) (fits : high ≤ length old) (gives : new ≡ edited old (span low high) put)
    (past : low + length put ≤ q) (back : (boundary_at olds j).place + (low + length put) ≡ q + high) (stacks : (boundary_at olds j).entries ≡ stack) where
  at_old : AtBoundary d old h.cut h.end old_found olds j (boundary_at olds j)
  at_old = record { tiling = h.tiling; items_are = h.items_are; boundaries_are = h.boundaries_are; at = slice_get-get_or olds j no_boundary within }

  pub rest_same : drop (boundary_at olds j).place old ≡ drop q new
  rest_same = sym (ap (drop q) gives ∙ drop-edited old low high put (boundary_at olds j).place q ordered fits past back)

  pub whole : IsLexed d new (found ++ map (rebased (boundary_at olds j).place q) (items_from (boundary_at olds j).place old_found)) (bounds ++ map (moved_boundary (boundary_at olds j).place q) (drop (j + 1) olds))
  whole = spliced d old new h.cut h.end found old_found bounds olds j q (boundary_at olds j) stack asked r at_old h.entries stacks rest_same

  bounds_len : length (boundaries d 0 (0 ∷ []) h.cut) ≡ length olds
  bounds_len = ap length (sym h.boundaries_are) ∙ length-map olds place_and_stack

  place_in : (k : ℕ) → k < length olds → (boundary_at olds k).place ≤ length old
  place_in k lt =
      let b = bounds_within d old 0 0 (0 ∷ []) h.cut h.end h.tiling (omega arith) (omega arith) k (place_and_stack no_boundary) (omega (arith, bounds_len)) in
      let e : (get_or (boundaries d 0 (0 ∷ []) h.cut) k (place_and_stack no_boundary)).0 ≡ (boundary_at olds k).place = ap (λ bs. (get_or bs k (place_and_stack no_boundary)).0) (sym h.boundaries_are) ∙ ap (λ (b : ℕ × List ℕ). b.0) (get_or-map place_and_stack olds k no_boundary (place_and_stack no_boundary) lt) in
      omega (arith, b.1, e)

  room : q ≤ length new → length new < 2 ^ 64 → length old + q < (boundary_at olds j).place + 2 ^ 64
  room inside small = omega (arith, place_in j within, ap length rest_same, length-drop (boundary_at olds j).place old, length-drop q new)

  pub items_movable : q ≤ length new → length new < 2 ^ 64 → All (IsMovable (boundary_at olds j).place q) (items_from (boundary_at olds j).place old_found)
  items_movable inside small =
      let p : ℕ = (boundary_at olds j).place in
      let tail = tail_tiling d old 0 (0 ∷ []) h.cut h.end j p (plain (boundary_at olds j).entries) h.tiling (at_bound d old h.cut h.end old_found olds j (boundary_at olds j) at_old) in
      all_movable p q (length old) (items_from (boundary_at olds j).place old_found) (room inside small)
      (subst (All (IsWithin p (length old))) (sym (tail_items d old h.cut h.end old_found olds j (boundary_at olds j) at_old))
      (items_within d old p p (plain (boundary_at olds j).entries) (drop j h.cut) h.end tail (omega arith) (place_in j within)))

  pub bounds_movable : q ≤ length new → length new < 2 ^ 64 → All (IsMovableBoundary (boundary_at olds j).place q) (drop (j + 1) olds)
  bounds_movable inside small = λ k x lt.
      let len : length (drop (j + 1) olds) ≡ length olds - (j + 1) = length-drop (j + 1) olds in
      let m : ℕ = (j + 1) + k in
      let here : get_or (drop (j + 1) olds) k x ≡ boundary_at olds m = get_or_any (drop (j + 1) olds) k x no_boundary lt ∙ get_or-drop (j + 1) olds k no_boundary in
      subst (IsMovableBoundary (boundary_at olds j).place q) (sym here) (record {
        place_from = omega (arith, (sorted d old old_found olds h).rising j m (omega arith) (omega arith));
        place_fits = omega (arith, place_in m (omega arith), room inside small);
      })

-- ---- what a meeting says of the searches

pub front_at : {A : Type 0} (xs ys : List A) (k : ℕ) → k < length xs → slice_get (xs ++ ys) k ≡ slice_get xs k
front_at [] ys k h = absurd (omega arith)
front_at (x ∷ xs) ys zero h = refl
front_at (x ∷ xs) ys (suc k) h = front_at xs ys k (omega arith)

pub meets_front : (olds bounds tail all : List Boundary) (low high len k : ℕ) → all ≡ bounds ++ tail → k < length bounds → Meets olds all low high len k → Meets olds bounds low high len k
meets_front olds bounds tail all low high len k e lt m = record {
  q = m.q;
  entries = m.entries;
  at = sym (front_at bounds tail k lt) ∙ ap (λ ms. slice_get ms k) (sym e) ∙ m.at;
  past = m.past;
  j = m.j;
  m = m.m;
  there = m.there;
  back = m.back;
  stack = m.stack;
}

take_past : {A : Type 0} (xs ys : List A) (k : ℕ) → length xs ≤ k → take k (xs ++ ys) ≡ xs ++ take (k - length xs) ys
take_past [] ys k h = let z : k - 0 ≡ k = omega arith in ap (λ i. take i ys) (sym z)
take_past (x ∷ xs) ys zero h = absurd (omega arith)
take_past (x ∷ xs) ys (suc k) h = let s : suc k - suc (length xs) ≡ k - length xs = omega arith in ap (λ zs. x ∷ zs) (take_past xs ys k (omega arith) ∙ ap (λ i. xs ++ take i ys) (sym s))

searches_front : (d : Definition) (text : List ℕ) (before rest all : List Boundary) (k : ℕ) → all ≡ before ++ rest → length before ≤ k → searches d text before ≤ searches d text (take k all)
searches_front d text before rest all k e le =
    let t : take k all ≡ before ++ take (k - length before) rest = ap (take k) e ∙ take_past before rest k le in
    omega (arith, ap (searches d text) t, ap (sum_by (asked_at d (length text))) (map-append place_and_stack before (take (k - length before) rest)), sum_by-append (asked_at d (length text)) (map place_and_stack before) (map place_and_stack (take (k - length before) rest)))

pub met : (d : Definition) (text : List ℕ) (olds : List Boundary) (low high len : ℕ) (place : ℕ) (stack : List (ℕ × ℕ)) (found : List Item) (bounds tail all : List Boundary) (asked now : ℕ) →
    (r : Reached d text place stack found bounds asked) → ((k : ℕ) → k + 1 < length bounds → Meets olds bounds low high len k → ⊥) → all ≡ bounds ++ tail → now ≤ asked →
    (k : ℕ) → Meets olds all low high len k → now ≤ searches d text (take k all)
met d text olds low high len place stack found bounds tail all asked now r unmet e few k m =
    let n = length_now d text place stack found bounds asked r in
    elim (cases_lt (k + 1) (length bounds)) [
      | inl early ↦ absurd (unmet k early (meets_front olds bounds tail all low high len k e (omega arith) m))
      | inr late ↦ omega (
        arith,
        few,
        r.asks,
        searches_front d text r.before (record { place = place; entries = stack } ∷ tail) all k
            (e ∙ ap (λ ms. ms ++ tail) r.kept ∙ append_assoc r.before (record { place = place; entries = stack } ∷ []) tail) (omega arith),
      )
    ]

-- the searches so far are few
pub few_met : (d : Definition) (text : List ℕ) (place : ℕ) (stack : List (ℕ × ℕ)) (found : List Item) (bounds tail all : List Boundary) (asked now : ℕ) →
    (r : Reached d text place stack found bounds asked) → all ≡ bounds ++ tail → now ≤ asked → now ≤ length all * length d.rules
few_met d text place stack found bounds tail all asked now r e few =
    let n : length r.before ≤ length all = omega (arith, length_now d text place stack found bounds asked r, ap length e, length-append bounds tail) in
    let most : length r.before * length d.rules ≤ length all * length d.rules = mul-le-mul_right (length d.rules) n in
    omega (arith, few, r.asks, searches-few d text r.before, most)

pub last_at : (xs : List Boundary) (x : Boundary) (k : ℕ) → length xs ≡ k → slice_get (xs ++ x ∷ []) k ≡ Some x
last_at [] x zero e = refl
last_at [] x (suc k) e = absurd (omega arith)
last_at (y ∷ xs) x zero e = absurd (omega arith)
last_at (y ∷ xs) x (suc k) e = last_at xs x k (omega arith)

-- where the test fails, no boundary so far meets
pub none_met : (d : Definition) (text : List ℕ) (olds : List Boundary) (low high len : ℕ) (place : ℕ) (stack : List (ℕ × ℕ)) (found : List Item) (bounds : List Boundary) (asked : ℕ) →
    (r : Reached d text place stack found bounds asked) → ((k : ℕ) → k + 1 < length bounds → Meets olds bounds low high len k → ⊥) →
    (low + len ≤ place → (j : ℕ) → j < length olds → (boundary_at olds j).place + (low + len) ≡ place + high → plain (boundary_at olds j).entries ≢ plain stack) →
    (k : ℕ) → Meets olds bounds low high len k → ⊥
none_met d text olds low high len place stack found bounds asked r unmet none k m =
    let n = length_now d text place stack found bounds asked r in
    let lt = slice_get_within bounds k _ m.at in
    elim (cases_lt (k + 1) (length bounds)) [
      | inl early ↦ unmet k early m
      | inr late ↦
          let here : length r.before ≡ k = omega arith in
          let cur : slice_get bounds k ≡ Some (record { place = place; entries = stack }) =
          ap (λ ms. slice_get ms k) r.kept ∙ last_at r.before (record { place = place; entries = stack }) k here in
          let same = same_Some _ _ (sym m.at ∙ cur) in
          let in_old = slice_get_within olds m.j m.m m.there in
          let old_is : boundary_at olds m.j ≡ m.m = get_or_from_slice_get olds m.j m.m no_boundary m.there in
          none (omega (arith, m.past, ap (λ (x : Boundary). x.place) same)) m.j in_old
          (omega (arith, m.back, ap (λ (x : Boundary). x.place) same, ap (λ (x : Boundary). x.place) old_is))
          (ap (λ (x : Boundary). plain x.entries) old_is ∙ m.stack ∙ ap (λ (x : Boundary). plain x.entries) same)
    ]

-- ---- how many tiles are cut anew

module _ (olds bounds tail all : List Boundary) (numbers : List ℕ) (low high len kept recut : ℕ) (unmet : (k : ℕ) → k + 1 < length bounds → Meets olds bounds low high len k → ⊥)
    (e : all ≡ bounds ++ tail) (reused : (k : ℕ) → k < length olds → IsSafe olds numbers low k → k < kept) (some : kept ≤ length bounds) (is : recut ≡ length bounds - kept) where
  met_late : (j : ℕ) → Meets olds all low high len j → length bounds ≤ j + 1
  met_late j m = elim (cases_lt (j + 1) (length bounds)) [
    | inl early ↦ absurd (unmet j early (meets_front olds bounds tail all low high len j e (omega arith) m))
    | inr late ↦ late
  ]

  -- those from a safe boundary to a meeting
  pub few_anew : (k : ℕ) → k < length olds → IsSafe olds numbers low k → (recut + k ≤ length all - 1) × ((j : ℕ) → Meets olds all low high len j → recut + k ≤ j)
  few_anew k within safe = (
    omega (arith, is, some, reused k within safe, ap length e, length-append bounds tail),
    λ j m. omega (arith, is, some, reused k within safe, met_late j m),
  )

-- boundaries before the edit meet none
pub unmet_before : (olds bounds : List Boundary) (low high len : ℕ) → ((k : ℕ) → k + 1 < length bounds → (boundary_at bounds k).place < low) → (k : ℕ) → k + 1 < length bounds → Meets olds bounds low high len k → ⊥
unmet_before olds bounds low high len before k lt m = absurd (omega (arith, before k lt, m.past, ap (λ (x : Boundary). x.place) (get_or_from_slice_get bounds k (record { place = m.q; entries = m.entries }) no_boundary m.at)))
