-- Rules and states, seen through their views.
use Rattle.std.proofs.Common.{◌≡◌, zero, suc, ℕ, ◌<◌, Bool, true, false, cond, not, ◌||◌, ◌==◌, List, [], ◌∷◌, map, length, get_or, Option, Some, None, option_map, slice_get, refl, sym, ap, ◌∙◌, arith, eq-eqb, true≢false, nat_lt, ◌≤◌, take, ◌++◌}
use Rattle.std.proofs.Math.Seq.{take-append_seam}
use Rattle.std.proofs.lemmas.Bool.{cond-true, cond-false, ltb-true, ltb-false, eqb-true}
use Rattle.std.proofs.lemmas.List.Sums.{passes_at_first, fails_before_first}
use Rattle.std.proofs.lemmas.List.Folds.{Any-from_list_any, list_any_at, find_at}
use Rattle.std.proofs.lemmas.List.{get_or_default}
use Rattle.std.proofs.lemmas.Option.{slice_get-map, slice_get_past, slice_get_read, same_Some, none-some}
use Rattle.std.specs.List.{list_any, find, position, position_or_len}
use Rattle.regex_hir.specs.Text.{is_some_and}
use Rattle.lrlex_rules.specs.Definition.{Definition, Rule, StartState}
use Rattle.lrlex_matching.specs.Matching.{match_length}
use Rattle.lrlex_rules.specs.Patterns.{pattern_of}
use Rattle.lrlex_rules.specs.Active.{is_active, is_inclusive, taken_by, taken_by_any}
use Rattle.lrlex_rules.specs.RuleParts.{RuleParts, as_rule, as_state}
use Rattle.lrlex_rules.specs.RuleLists.{ArePlaced}
use Rattle.lrlex_rules.specs.declared.states.StartState as start

pub list_any-map : {A B : Type 0} (f : A → B) (p : B → Bool) (xs : List A) → list_any p (map f xs) ≡ list_any (λ x. p (f x)) xs
list_any-map f p [] = refl
list_any-map f p (x ∷ xs) = ap (λ b. p (f x) || b) (list_any-map f p xs)

cond_map : {A B : Type 0} (f : A → B) (b : Bool) (x : A) (o : Option A) (u : Option B) → u ≡ option_map f o → cond b (Some (f x)) u ≡ option_map f (cond b (Some x) o)
cond_map f true x o u e = refl
cond_map f false x o u e = e

pub find-map : {A B : Type 0} (f : A → B) (p : B → Bool) (xs : List A) → find p (map f xs) ≡ option_map f (find (λ x. p (f x)) xs)
find-map f p [] = refl
find-map f p (x ∷ xs) = cond_map f (p (f x)) x _ _ (find-map f p xs)

test_viewed : (o : Option start.StartState) → is_some_and (option_map as_state o) (λ s. not s.exclusive) ≡ is_some_and o (λ s. not (as_state s).exclusive)
test_viewed None = refl
test_viewed (Some s) = refl

pub inclusive_as : (states : List start.StartState) (id : ℕ) (o : Option start.StartState) → o ≡ find (λ s. (as_state s).id == id) states →
    is_some_and o (λ s. not (as_state s).exclusive) ≡ is_some_and (find (λ s. s.id == id) (map as_state states)) (λ s. not s.exclusive)
inclusive_as states id o e =
    sym (test_viewed o) ∙ ap (λ (u : Option StartState). is_some_and u (λ s. not s.exclusive))
    (ap (option_map as_state) e ∙ sym (find-map as_state (λ s. s.id == id) states))

-- ---- rules by place

module _ {A : Type 0} (xs : List A) (i : ℕ) (x : A) (within : i < length xs) (read : x ≡ get_or xs i x) where
  view_at : {B : Type 0} (f : A → B) → slice_get (map f xs) i ≡ Some (f x)
  view_at f = slice_get-map f xs i ∙ ap (option_map f) (slice_get_read xs (length xs) i x refl within read)

pub rule_at_place : {S : Type 0} (number : S → ℕ) (rules : List (RuleParts S)) (i : ℕ) (r : RuleParts S) → i < length rules → r ≡ get_or rules i r →
    slice_get (map (as_rule number) rules) i ≡ Some (as_rule number r)
rule_at_place number rules i r within read = view_at rules i r within read (as_rule number)

-- ---- what an active rule takes

by_active : (d : Definition) (q : ℕ) (text : List ℕ) (r : Rule) → is_active d.states q r ≡ true → taken_by d q text r ≡ match_length (pattern_of r) text
unfolding taken_by
by_active d q text r e = cond-true _ (match_length (pattern_of r) text) 0 e

by_inactive : (d : Definition) (q : ℕ) (text : List ℕ) (r : Rule) → is_active d.states q r ≡ false → taken_by d q text r ≡ 0
unfolding taken_by
by_inactive d q text r e = cond-false _ (match_length (pattern_of r) text) 0 e

pub taken_inactive : (d : Definition) (q : ℕ) (text : List ℕ) (o : Option Rule) → is_some_and o (is_active d.states q) ≡ false → taken_by_any d q text o ≡ 0
taken_inactive d q text None e = refl
taken_inactive d q text (Some r) e = by_inactive d q text r e

pub taken_active : (d : Definition) (q : ℕ) (text : List ℕ) (o : Option Rule) (r : Rule) → is_some_and o (is_active d.states q) ≡ true →
    o ≡ Some r → taken_by_any d q text o ≡ match_length (pattern_of r) text
taken_active d q text None r e at = absurd (none-some _ at)
taken_active d q text (Some s) r e at = by_active d q text s e ∙ ap (λ x. match_length (pattern_of x) text) (same_Some _ _ at)

-- ---- the first state with an id

position_cases : (n len i : ℕ) (b : Bool) → nat_lt n len ≡ b → Some i ≡ cond b (Some n) None → (i ≡ n) × (n < len)
position_cases n len i true t e = (same_Some _ _ e, ltb-true n len t)
position_cases n len i false t e = absurd (none-some _ (sym e))

pub position_within : {A : Type 0} (p : A → Bool) (xs : List A) (i : ℕ) → Some i ≡ position p xs → i < length xs
position_within p xs i e =
    let found = position_cases (position_or_len p xs) (length xs) i _ refl e in
    omega (arith, found.0, found.1)

pub item_at : {A : Type 0} (xs : List A) (i : ℕ) → i < length xs → A
item_at [] i h = absurd (omega arith)
item_at (x ∷ xs) zero h = x
item_at (x ∷ xs) (suc i) h = item_at xs i (omega arith)

-- the place that a search for the first gives
pub position_some : {A : Type 0} (p : A → Bool) (xs : List A) (i : ℕ) → Some i ≡ position p xs → (d : A) → (i < length xs) × (p (get_or xs i d) ≡ true)
position_some p xs i e d =
    let found = position_cases (position_or_len p xs) (length xs) i _ refl e in
    (omega (arith, found.0, found.1), ap (λ k. p (get_or xs k d)) found.0 ∙ passes_at_first p xs d found.1)

none_cases : (n len : ℕ) (b : Bool) → nat_lt n len ≡ b → None ≡ cond b (Some n) None → len ≤ n
none_cases n len true t e = absurd (none-some _ e)
none_cases n len false t e = ltb-false n len t

pub position_none : {A : Type 0} (p : A → Bool) (xs : List A) → None ≡ position p xs → list_any p xs ≡ true → ⊥
position_none p xs e some =
    let past = none_cases (position_or_len p xs) (length xs) _ refl e in
    let any = Any-from_list_any p xs some in
    let no = fails_before_first p xs any.0 any.1 (omega (arith, any.2, past)) in
    true≢false (sym any.4 ∙ ap p (sym any.3) ∙ no)

-- ---- where ids are places

placed_at : (states : List start.StartState) (i q : ℕ) (d : start.StartState) → ArePlaced states → i < length states → ((as_state (get_or states i d)).id == q) ≡ true → i ≡ q
placed_at states i q d placed within is =
    let s = get_or states i d in
    sym (placed i s (slice_get_read states (length states) i s refl within (get_or_default states i d s within))) ∙ eqb-true _ _ is

placed_is : (states : List start.StartState) (q : ℕ) (d : start.StartState) → ArePlaced states → q < length states → ((as_state (get_or states q d)).id == q) ≡ true
placed_is states q d placed within =
    let s = get_or states q d in
    eq-eqb _ _ (placed q s (slice_get_read states (length states) q s refl within (get_or_default states q d s within)))

pub placed_has : (states : List start.StartState) (q : ℕ) → ArePlaced states → q < length states → list_any (λ s. (as_state s).id == q) states ≡ true
placed_has states q placed within =
    let d = item_at states q within in
    list_any_at (λ s. (as_state s).id == q) states q d within (placed_is states q d placed within)

found_within : (states : List start.StartState) (q : ℕ) (o : Option ℕ) → ArePlaced states → q < length states → o ≡ position (λ s. (as_state s).id == q) states → Some q ≡ o
found_within states q None placed within e = absurd (position_none _ states e (placed_has states q placed within))
found_within states q (Some i) placed within e =
    let found = position_some _ states i e (item_at states q within) in
    ap Some (sym (placed_at states i q (item_at states q within) placed found.0 found.1))

pub placed_within : (states : List start.StartState) (q : ℕ) → ArePlaced states → q < length states → Some q ≡ position (λ s. (as_state s).id == q) states
placed_within states q placed within = found_within states q _ placed within refl

found_past : (states : List start.StartState) (q : ℕ) (o : Option ℕ) → ArePlaced states → length states ≤ q → o ≡ position (λ s. (as_state s).id == q) states → None ≡ o
found_past states q None placed past e = refl
found_past states q (Some i) placed past e =
    let within = position_within _ states i e in
    let d = item_at states i within in
    let found = position_some _ states i e d in
    absurd (omega (arith, placed_at states i q d placed found.0 found.1))

pub placed_past : (states : List start.StartState) (q : ℕ) → ArePlaced states → length states ≤ q → None ≡ position (λ s. (as_state s).id == q) states
placed_past states q placed past = found_past states q _ placed past refl

find_of_place : (states : List start.StartState) (q : ℕ) (b : Bool) → ArePlaced states → nat_lt q (length states) ≡ b → slice_get states q ≡ find (λ s. (as_state s).id == q) states
find_of_place states q true placed e =
    let p : start.StartState → Bool = λ s. (as_state s).id == q in
    let found = position_cases (position_or_len p states) (length states) q _ refl (placed_within states q placed (ltb-true q (length states) e)) in
    ap (slice_get states) found.0 ∙ sym (find_at p states)
find_of_place states q false placed e =
    let p : start.StartState → Bool = λ s. (as_state s).id == q in
    let past = ltb-false q (length states) e in
    slice_get_past states q past
    ∙ sym (slice_get_past states (position_or_len p states) (none_cases (position_or_len p states) (length states) _ refl (placed_past states q placed past)))
    ∙ sym (find_at p states)

pub placed_find : (states : List start.StartState) (q : ℕ) → ArePlaced states → slice_get states q ≡ find (λ s. (as_state s).id == q) states
placed_find states q placed = find_of_place states q _ placed refl

pub placed_inclusive : (states : List start.StartState) (i : ℕ) (s : start.StartState) → ArePlaced states → slice_get states i ≡ Some s →
    not (as_state s).exclusive ≡ is_inclusive (map as_state states) i
placed_inclusive states i s placed at = inclusive_as states i (Some s) (sym at ∙ placed_find states i placed)

lacks_past : (states : List start.StartState) (q : ℕ) (b : Bool) → ArePlaced states → length states ≤ q → list_any (λ s. (as_state s).id == q) states ≡ b → b ≡ false
lacks_past states q false placed past e = refl
lacks_past states q true placed past e = absurd (position_none _ states (placed_past states q placed past) e)

test_of_place : (states : List start.StartState) (q : ℕ) (b : Bool) → ArePlaced states → nat_lt q (length states) ≡ b → b ≡ list_any (λ s. (as_state s).id == q) states
test_of_place states q true placed e = sym (placed_has states q placed (ltb-true q (length states) e))
test_of_place states q false placed e = sym (lacks_past states q _ placed (ltb-false q (length states) e) refl)

pub placed_test : (states : List start.StartState) (q : ℕ) → ArePlaced states → nat_lt q (length states) ≡ list_any (λ s. (as_state s).id == q) states
placed_test states q placed = test_of_place states q _ placed refl

-- a slice that was lent whole is back
pub taken_back : {A : Type 0} (new rest : List A) (n : ℕ) → n ≡ length new → take n (new ++ rest) ≡ new
taken_back new rest n e = ap (λ i. take i (new ++ rest)) e ∙ take-append_seam new rest
