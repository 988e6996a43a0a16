-- A scan over the places of the active rules keeps the best so far.
use Rattle.std.proofs.Common.{◌≡◌, ℕ, zero, suc, ◌+◌, ◌-◌, ◌<◌, ◌≤◌, Bool, true, List, [], ◌∷◌, length, drop, get_or, Option, None, Some, slice_get, refl, sym, ap, ◌∙◌, inl, inr, arith}
use Rattle.std.proofs.lemmas.Bool.{cases_lt}
use Rattle.std.proofs.lemmas.List.{drop-drop, nil_from_length, length-drop}
use Rattle.std.proofs.lemmas.Option.{slice_get_within}
use Rattle.regex_hir.specs.Text.{is_some_and}
use Rattle.lrlex_rules.specs.Definition.{Definition, Rule}
use Rattle.lrlex_rules.specs.Active.{is_active, active_count, active_places, places_from, taken, taken_by_any}
use Rattle.lrlex_rules.proofs.BestLemmas.{IsBest, IsBest-none, IsBest-kept, IsBest-taken, IsBest-skip}
use Rattle.lrlex_rules.proofs.PlaceLemmas.{IsNext, next_place, no_place, length-places}
use Rattle.lrlex_rules.proofs.ViewLemmas.{taken_inactive}

-- the places before the one at `index` were looked at, and with them all rules before `upto`
pub record IsScanned (d : Definition) (q : ℕ) (text : List ℕ) (places : List ℕ) (index k n : ℕ) : Type 0 where
  pub upto : ℕ
  pub left : drop index places ≡ places_from (is_active d.states q) upto (drop upto d.rules)
  pub best : IsBest d q text upto k n

pub slice_get-drop : {A : Type 0} (xs : List A) (m i : ℕ) → slice_get (drop m xs) i ≡ slice_get xs (m + i)
slice_get-drop xs zero i = let z : 0 + i ≡ i = omega arith in ap (slice_get xs) (sym z)
slice_get-drop [] (suc m) i = refl
slice_get-drop (x ∷ xs) (suc m) i = let s : suc m + i ≡ suc (m + i) = omega arith in slice_get-drop xs m i ∙ ap (slice_get (x ∷ xs)) (sym s)

drop_at_index : {A : Type 0} (xs : List A) (i : ℕ) (d : A) → i < length xs → drop i xs ≡ get_or xs i d ∷ drop (i + 1) xs
drop_at_index [] i d h = absurd (omega arith)
drop_at_index (x ∷ xs) zero d h = refl
drop_at_index (x ∷ xs) (suc i) d h = let s : suc i + 1 ≡ suc (i + 1) = omega arith in drop_at_index xs i d (omega arith) ∙ ap (λ n. get_or xs i d ∷ drop n (x ∷ xs)) (sym s)

module _ (d : Definition) (q : ℕ) (text : List ℕ) where
  abbrev pub test : Rule → Bool
  test = is_active d.states q

  pub IsScanned-none : (places : List ℕ) → places ≡ active_places d.states d.rules q → IsScanned d q text places 0 0 0
  IsScanned-none places e = record { upto = 0; left = e; best = IsBest-none d q text 0 }

  module _ (places : List ℕ) (index k n place : ℕ) (s : IsScanned d q text places index k n) (within : index < length places) (read : place ≡ get_or places index 0) where
    next : IsNext test s.upto (drop s.upto d.rules) place (drop (index + 1) places)
    next =
        next_place test s.upto (drop s.upto d.rules) place (drop (index + 1) places)
        (sym s.left ∙ drop_at_index places index 0 within ∙ ap (λ i. i ∷ drop (index + 1) places) (sym read))

    pub passes : is_some_and (slice_get d.rules place) test ≡ true
    passes = ap (λ o. is_some_and o test) (ap (slice_get d.rules) next.at ∙ sym (slice_get-drop d.rules s.upto next.skipped)) ∙ next.passes

    skipped : (i : ℕ) → s.upto ≤ i → i < place → taken d q text i ≡ 0
    skipped i ge lt =
        let n : ℕ = i - s.upto in
        let at : s.upto + n ≡ i = omega arith in
        taken_inactive d q text (slice_get d.rules i)
        (ap (λ o. is_some_and o test) (ap (slice_get d.rules) (sym at) ∙ sym (slice_get-drop d.rules s.upto n)) ∙ next.fails n (omega (arith, next.at)))

    best_before : IsBest d q text place k n
    best_before = IsBest-skip d q text s.upto place k n s.best (omega (arith, next.at)) skipped

    left_after : drop (index + 1) places ≡ places_from test (place + 1) (drop (place + 1) d.rules)
    left_after =
        let to : s.upto + (next.skipped + 1) ≡ place + 1 = omega (arith, next.at) in
        next.left ∙ ap (places_from test (place + 1)) (drop-drop (next.skipped + 1) s.upto d.rules ∙ ap (λ i. drop i d.rules) to)

    pub IsScanned-kept : taken d q text place ≤ n → IsScanned d q text places (index + 1) k n
    IsScanned-kept le = record { upto = place + 1; left = left_after; best = IsBest-kept d q text place k n best_before le }

    pub IsScanned-taken : (p : ℕ) → taken d q text place ≡ p → n < p → IsScanned d q text places (index + 1) place p
    IsScanned-taken p is gt = record { upto = place + 1; left = left_after; best = IsBest-taken d q text place k n p best_before is gt }

    pub place_within : place < length d.rules
    place_within = some_within (slice_get d.rules place) refl passes where
      some_within : (o : Option Rule) → slice_get d.rules place ≡ o → is_some_and o test ≡ true → place < length d.rules
      some_within None e h = cc
      some_within (Some r) e h = slice_get_within d.rules place r e

  pub scanned_all : (places : List ℕ) (index k n : ℕ) → IsScanned d q text places index k n → length places ≤ index → IsBest d q text (length d.rules) k n
  scanned_all places index k n s past = finish (drop-past places index past) where
    drop-past : (xs : List ℕ) (i : ℕ) → length xs ≤ i → drop i xs ≡ []
    drop-past xs i h = nil_from_length (drop i xs) (omega (arith, length-drop i xs))

    none_left : places_from test s.upto (drop s.upto d.rules) ≡ [] → (i : ℕ) → s.upto ≤ i → taken d q text i ≡ 0
    none_left e i ge =
        let n : ℕ = i - s.upto in
        let at : s.upto + n ≡ i = omega arith in
        taken_inactive d q text (slice_get d.rules i)
        (ap (λ o. is_some_and o test) (ap (slice_get d.rules) (sym at) ∙ sym (slice_get-drop d.rules s.upto n)) ∙ no_place test s.upto (drop s.upto d.rules) e n)

    finish : drop index places ≡ [] → IsBest d q text (length d.rules) k n
    finish e =
        let none = none_left (sym s.left ∙ e) in
        record {
          most = λ i lt. elim (cases_lt i s.upto) [
            | inl early ↦ s.best.most i early
            | inr late ↦ omega (arith, none i late)
          ];
          takes = s.best.takes;
          first = s.best.first;
          within = λ h. within_rules (slice_get d.rules k) refl (omega (arith, s.best.takes h, h));
        } where
          within_rules : (o : Option Rule) → slice_get d.rules k ≡ o → 0 < taken_by_any d q text (slice_get d.rules k) → k < length d.rules
          within_rules None e h = let z : taken_by_any d q text (slice_get d.rules k) ≡ 0 = ap (taken_by_any d q text) e in absurd (omega arith)
          within_rules (Some r) e h = slice_get_within d.rules k r e

pub length-active : (d : Definition) (q : ℕ) → length (active_places d.states d.rules q) ≡ active_count d q
unfolding active_count
length-active d q = length-places (is_active d.states q) 0 d.rules

pub length-places_of : (d : Definition) (q : ℕ) (places : List ℕ) → places ≡ active_places d.states d.rules q → length places ≡ active_count d q
length-places_of d q places e = ap length e ∙ length-active d q
