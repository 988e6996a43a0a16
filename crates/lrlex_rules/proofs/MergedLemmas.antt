-- The places of the rules of a state, merged from those that list it and those that list none.
use Rattle.std.proofs.Common.{◌≡◌, ℕ, zero, suc, ◌+◌, ◌<◌, ◌≤◌, Bool, true, false, cond, ◌&&◌, ◌||◌, ◌==◌, List, [], ◌∷◌, length, get_or, drop, slice_get, is_none, All, true≢false, refl, sym, ap, ap₂, ◌∙◌, arith}
use Rattle.std.proofs.lemmas.Bool.{cond-true, cond-false, lt-ltb, le-ltb}
use Rattle.std.proofs.lemmas.List.{drop_more, get_or-drop, length-drop}
use Rattle.std.specs.List.{list_any}
use Rattle.lrlex_rules.specs.Definition.{Rule, StartState}
use Rattle.lrlex_rules.specs.Active.{active_places, is_active, is_active_where, is_inclusive, lists_none, lists_state, merged, places_from}
use Rattle.lrlex_rules.proofs.PlaceLemmas.{active_where}

pub merged_nil : (xs : List ℕ) → merged xs [] ≡ xs
merged_nil [] = refl
merged_nil (x ∷ xs) = refl

-- the lesser of the first two comes first
pub merged_second : (x y : ℕ) (xs ys : List ℕ) → y < x → merged (x ∷ xs) (y ∷ ys) ≡ y ∷ merged (x ∷ xs) ys
merged_second x y xs ys lt = cond-true _ (y ∷ merged (x ∷ xs) ys) (x ∷ merged xs (y ∷ ys)) (lt-ltb y x lt)

pub merged_first : (x : ℕ) (xs ys : List ℕ) → (0 < length ys → x ≤ get_or ys 0 0) → merged (x ∷ xs) ys ≡ x ∷ merged xs ys
merged_first x xs [] le = ap (λ zs. x ∷ zs) (sym (merged_nil xs))
merged_first x xs (y ∷ ys) le = cond-false _ (y ∷ merged (x ∷ xs) ys) (x ∷ merged xs (y ∷ ys)) (le-ltb y x (le (omega arith)))

pub merged_behind : (y : ℕ) (xs ys : List ℕ) → (0 < length xs → y < get_or xs 0 0) → merged xs (y ∷ ys) ≡ y ∷ merged xs ys
merged_behind y [] ys lt = refl
merged_behind y (x ∷ xs) ys lt = merged_second x y xs ys (lt (omega arith))

-- the first comes first also of what is left of both
pub merged_from : (xs ys : List ℕ) (i j : ℕ) → i < length xs → (j < length ys → get_or xs i 0 ≤ get_or ys j 0) →
    merged (drop i xs) (drop j ys) ≡ get_or xs i 0 ∷ merged (drop (i + 1) xs) (drop j ys)
merged_from xs ys i j lt le =
    ap (λ zs. merged zs (drop j ys)) (drop_more xs i 0 lt)
    ∙ merged_first (get_or xs i 0) (drop (i + 1) xs) (drop j ys) (λ some. let here : j + 0 ≡ j = omega arith in omega (arith, le (omega (arith, length-drop j ys)), get_or-drop j ys 0 0, ap (λ k. get_or ys k 0) here))

-- ---- the places of rules that pass one of two tests

above_here : (k n : ℕ) (xs : List ℕ) → n ≤ k → All (λ i. n ≤ i) xs → (b : Bool) → All (λ i. n ≤ i) (cond b (k ∷ xs) xs)
above_here k n xs le all true zero d within = le
above_here k n xs le all true (suc i) d within = all i d (omega arith)
above_here k n xs le all false i d within = all i d within

places_above : (p : Rule → Bool) (k n : ℕ) (rules : List Rule) → n ≤ k → All (λ i. n ≤ i) (places_from p k rules)
places_above p k n [] le = λ i d within. absurd (omega arith)
places_above p k n (r ∷ rs) le = above_here k n (places_from p (k + 1) rs) le (places_above p (k + 1) n rs (omega arith)) (p r)

first_above : (k : ℕ) (p : Rule → Bool) (rules : List Rule) → 0 < length (places_from p (k + 1) rules) → k < get_or (places_from p (k + 1) rules) 0 0
first_above k p rules some = omega (arith, places_above p (k + 1) (k + 1) rules (omega arith) 0 0 some)

either_here : (k : ℕ) (xs ys zs : List ℕ) → merged xs ys ≡ zs → (0 < length xs → k < get_or xs 0 0) → (0 < length ys → k < get_or ys 0 0) →
    (b d : Bool) → (b && d) ≡ false → merged (cond b (k ∷ xs) xs) (cond d (k ∷ ys) ys) ≡ cond (b || d) (k ∷ zs) zs
either_here k xs ys zs same x y true true not_both = absurd (true≢false not_both)
either_here k xs ys zs same x y true false not_both = merged_first k xs ys (λ some. omega (arith, y some)) ∙ ap (λ us. k ∷ us) same
either_here k xs ys zs same x y false true not_both = merged_behind k xs ys x ∙ ap (λ us. k ∷ us) same
either_here k xs ys zs same x y false false not_both = same

-- where no rule passes both
pub places_of_either : (p q : Rule → Bool) → ((r : Rule) → (p r && q r) ≡ false) → (k : ℕ) (rules : List Rule) →
    merged (places_from p k rules) (places_from q k rules) ≡ places_from (λ r. p r || q r) k rules
places_of_either p q not_both k [] = refl
places_of_either p q not_both k (r ∷ rs) =
    either_here k (places_from p (k + 1) rs) (places_from q (k + 1) rs) (places_from (λ r. p r || q r) (k + 1) rs)
    (places_of_either p q not_both (k + 1) rs) (first_above k p rs) (first_above k q rs) (p r) (q r) (not_both r)

pub places_alike : (p q : Rule → Bool) → ((r : Rule) → p r ≡ q r) → (k : ℕ) (rules : List Rule) → places_from p k rules ≡ places_from q k rules
places_alike p q same k [] = refl
places_alike p q same k (r ∷ rs) = ap₂ (λ (b : Bool) (xs : List ℕ). cond b (k ∷ xs) xs) (same r) (places_alike p q same (k + 1) rs)

-- ---- the rules of a state: those that list it, and where it is inclusive those that list none

or_none : (b : Bool) → (b || false) ≡ b
or_none true = refl
or_none false = refl

and_none : (b : Bool) → (b && false) ≡ false
and_none true = refl
and_none false = refl

not_both_of : (q : ℕ) (xs : List ℕ) → (list_any (λ s. s == q) xs && is_none (slice_get xs 0)) ≡ false
not_both_of q [] = refl
not_both_of q (x ∷ xs) = and_none _

inclusive_of : (q : ℕ) (xs : List ℕ) → (list_any (λ s. s == q) xs || is_none (slice_get xs 0)) ≡ cond (is_none (slice_get xs 0)) true (list_any (λ s. s == q) xs)
inclusive_of q [] = refl
inclusive_of q (x ∷ xs) = or_none _

exclusive_of : (q : ℕ) (xs : List ℕ) → list_any (λ s. s == q) xs ≡ cond (is_none (slice_get xs 0)) false (list_any (λ s. s == q) xs)
exclusive_of q [] = refl
exclusive_of q (x ∷ xs) = refl

pub places_inclusive : (q : ℕ) (rules : List Rule) →
    merged (places_from (lists_state q) 0 rules) (places_from lists_none 0 rules) ≡ places_from (is_active_where true q) 0 rules
places_inclusive q rules =
    places_of_either (lists_state q) lists_none (λ r. not_both_of q r.start_states) 0 rules
    ∙ places_alike (λ r. lists_state q r || lists_none r) (is_active_where true q) (λ r. inclusive_of q r.start_states) 0 rules

pub places_exclusive : (q : ℕ) (rules : List Rule) → places_from (lists_state q) 0 rules ≡ places_from (is_active_where false q) 0 rules
places_exclusive q rules = places_alike (lists_state q) (is_active_where false q) (λ r. exclusive_of q r.start_states) 0 rules

-- what a state has, whether it is inclusive or not
pub places_of_state : (states : List StartState) (q : ℕ) (rules : List Rule) (inclusive : Bool) → inclusive ≡ is_inclusive states q →
    cond inclusive (merged (places_from (lists_state q) 0 rules) (places_from lists_none 0 rules)) (places_from (lists_state q) 0 rules) ≡ active_places states rules q
places_of_state states q rules true same = places_inclusive q rules ∙ places_alike (is_active_where true q) (is_active states q) (λ r. active_where states q true r same) 0 rules
places_of_state states q rules false same = places_exclusive q rules ∙ places_alike (is_active_where false q) (is_active states q) (λ r. active_where states q false r same) 0 rules
