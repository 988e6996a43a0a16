-- The places of the rules that pass a test.
use Rattle.std.proofs.Common.{◌≡◌, ℕ, zero, suc, ◌+◌, ◌<◌, ◌≤◌, Bool, true, false, cond, List, [], ◌∷◌, ◌++◌, length, drop, map, take, get_or, slice_get, refl, sym, ap, ◌∙◌, arith, count_by}
use Rattle.std.proofs.lemmas.List.Recursion.{is_count_by}
use Rattle.std.proofs.lemmas.List.{length-map, length-take-le, map_more}
use Rattle.regex_hir.specs.Text.{is_some_and}
use Rattle.lrlex_rules.specs.Definition.{StartState, Rule}
use Rattle.lrlex_rules.specs.Active.{is_active, is_active_where, is_inclusive, places_from, active_places}
use Rattle.lrlex_rules.specs.RuleParts.{RuleParts, as_rule}

-- the first place that passes stands n rules on
pub record IsNext (p : Rule → Bool) (k : ℕ) (rules : List Rule) (j : ℕ) (rest : List ℕ) : Type 0 where
  pub skipped : ℕ
  pub at : j ≡ k + skipped
  pub passes : is_some_and (slice_get rules skipped) p ≡ true
  pub fails : (i : ℕ) → i < skipped → is_some_and (slice_get rules i) p ≡ false
  pub left : rest ≡ places_from p (j + 1) (drop (skipped + 1) rules)

fails_on : (p : Rule → Bool) (r : Rule) (rs : List Rule) → p r ≡ false → (n : ℕ) → ((i : ℕ) → i < n → is_some_and (slice_get rs i) p ≡ false) →
    (i : ℕ) → i < suc n → is_some_and (slice_get (r ∷ rs) i) p ≡ false
fails_on p r rs is n h zero lt = is
fails_on p r rs is n h (suc i) lt = h i (omega arith)

next_here : (p : Rule → Bool) (k : ℕ) (r : Rule) (rs : List Rule) (j : ℕ) (rest : List ℕ) → (places_from p (k + 1) rs ≡ j ∷ rest → IsNext p (k + 1) rs j rest) →
    (b : Bool) → p r ≡ b → cond b (k ∷ places_from p (k + 1) rs) (places_from p (k + 1) rs) ≡ j ∷ rest → IsNext p k (r ∷ rs) j rest
next_here p k r rs j rest ih true is at =
    let here : k ≡ j = cc in
    let tail : places_from p (k + 1) rs ≡ rest = cc in
    record {
      skipped = 0;
      at = omega arith;
      passes = is;
      fails = λ i lt. absurd (omega arith);
      left = sym tail ∙ ap (λ i. places_from p (i + 1) rs) here;
    }
next_here p k r rs j rest ih false is at =
    let later = ih at in
    let same : suc later.skipped + 1 ≡ suc (later.skipped + 1) = omega arith in
    record {
      skipped = suc later.skipped;
      at = omega (arith, later.at);
      passes = later.passes;
      fails = fails_on p r rs is later.skipped later.fails;
      left = later.left ∙ ap (λ n. places_from p (j + 1) (drop n (r ∷ rs))) (sym same);
    }

pub next_place : (p : Rule → Bool) (k : ℕ) (rules : List Rule) (j : ℕ) (rest : List ℕ) → places_from p k rules ≡ j ∷ rest → IsNext p k rules j rest
next_place p k [] j rest e = cc
next_place p k (r ∷ rs) j rest e = next_here p k r rs j rest (next_place p (k + 1) rs j rest) (p r) refl e

none_here : (p : Rule → Bool) (k : ℕ) (r : Rule) (rs : List Rule) → (places_from p (k + 1) rs ≡ [] → (i : ℕ) → is_some_and (slice_get rs i) p ≡ false) →
    (b : Bool) → p r ≡ b → cond b (k ∷ places_from p (k + 1) rs) (places_from p (k + 1) rs) ≡ [] → (i : ℕ) → is_some_and (slice_get (r ∷ rs) i) p ≡ false
none_here p k r rs ih true is at i = cc
none_here p k r rs ih false is at zero = is
none_here p k r rs ih false is at (suc i) = ih at i

pub no_place : (p : Rule → Bool) (k : ℕ) (rules : List Rule) → places_from p k rules ≡ [] → (i : ℕ) → is_some_and (slice_get rules i) p ≡ false
no_place p k [] e i = refl
no_place p k (r ∷ rs) e i = none_here p k r rs (no_place p (k + 1) rs) (p r) refl e i

last_none : (k n : ℕ) → n ≡ k → (b : Bool) → cond b (k ∷ []) [] ≡ cond b (n ∷ []) []
last_none k n e true = ap (λ i. i ∷ []) (sym e)
last_none k n e false = refl

last_more : (k : ℕ) (xs ys zs : List ℕ) → xs ≡ ys ++ zs → (b : Bool) → cond b (k ∷ xs) xs ≡ cond b (k ∷ ys) ys ++ zs
last_more k xs ys zs e true = ap (λ us. k ∷ us) e
last_more k xs ys zs e false = e

pub places_last : (p : Rule → Bool) (k : ℕ) (rules : List Rule) (r : Rule) → places_from p k (rules ++ r ∷ []) ≡ places_from p k rules ++ cond (p r) ((k + length rules) ∷ []) []
places_last p k [] r = last_none k (k + 0) (omega arith) (p r)
places_last p k (s ∷ rules) r =
    let next : (k + 1) + length rules ≡ k + suc (length rules) = omega arith in
    last_more k (places_from p (k + 1) (rules ++ r ∷ [])) (places_from p (k + 1) rules) (cond (p r) ((k + suc (length rules)) ∷ []) [])
    (places_last p (k + 1) rules r ∙ ap (λ n. places_from p (k + 1) rules ++ cond (p r) (n ∷ []) []) next) (p s)

counted_here : (k n : ℕ) (xs : List ℕ) → length xs ≡ n → (b : Bool) → length (cond b (k ∷ xs) xs) ≡ cond b (1 + n) n
counted_here k n xs e true = omega (arith, e)
counted_here k n xs e false = e

count_of : (Rule → Bool) → List Rule → ℕ
count_of p [] = 0
count_of p (r ∷ rs) = cond (p r) (1 + count_of p rs) (count_of p rs)

length-count_of : (p : Rule → Bool) (k : ℕ) (rules : List Rule) → length (places_from p k rules) ≡ count_of p rules
unfolding count_of
length-count_of p k [] = refl
length-count_of p k (r ∷ rs) = counted_here k (count_of p rs) (places_from p (k + 1) rs) (length-count_of p (k + 1) rs) (p r)

pub length-places : (p : Rule → Bool) (k : ℕ) (rules : List Rule) → length (places_from p k rules) ≡ count_by p rules
unfolding count_of
length-places p k rules = length-count_of p k rules ∙ is_count_by (count_of p) p refl (λ r rs. refl) rules

-- which rules are active does not rest on their ids
places_by : {S : Type 0} (value : S → ℕ) (states : List StartState) (q k : ℕ) (rules : List (RuleParts S)) →
    places_from (is_active states q) k (map (as_rule (λ s. 0)) rules) ≡ places_from (is_active states q) k (map (as_rule value) rules)
unfolding is_active
places_by value states q k [] = refl
places_by value states q k (r ∷ rules) =
    ap (λ (xs : List ℕ). cond (is_active states q (as_rule value r)) (k ∷ xs) xs) (places_by value states q (k + 1) rules)

pub active_places-by : {S : Type 0} (value : S → ℕ) (states : List StartState) (rules : List (RuleParts S)) (q : ℕ) →
    active_places states (map (as_rule (λ s. 0)) rules) q ≡ active_places states (map (as_rule value) rules) q
active_places-by value states rules q = places_by value states q 0 rules

-- whether a rule is active rests on the state's inclusiveness
pub active_where : (states : List StartState) (q : ℕ) (inclusive : Bool) (r : Rule) → inclusive ≡ is_inclusive states q →
    is_active_where inclusive q r ≡ is_active states q r
unfolding is_active
active_where states q inclusive r same = ap (λ b. is_active_where b q r) same

-- one more rule of the program
pub places_more : {A : Type 0} (p : Rule → Bool) (view : A → Rule) (rules : List A) (i : ℕ) (r : A) → i < length rules → r ≡ get_or rules i r →
    places_from p 0 (map view (take (i + 1) rules)) ≡ places_from p 0 (map view (take i rules)) ++ cond (p (view r)) (i ∷ []) []
places_more p view rules i r within read =
    let n : 0 + length (map view (take i rules)) ≡ i = omega (arith, length-map (take i rules) view, length-take-le i rules (omega arith)) in
    ap (places_from p 0) (map_more view rules i r within ∙ ap (λ x. map view (take i rules) ++ view x ∷ []) (sym read))
    ∙ places_last p 0 (map view (take i rules)) (view r)
    ∙ ap (λ k. places_from p 0 (map view (take i rules)) ++ cond (p (view r)) (k ∷ []) []) n

-- where as many places are listed as there are rules, each is listed at its own place
few_here : (k : ℕ) (xs : List ℕ) (n : ℕ) → length xs ≤ n → (b : Bool) → length (cond b (k ∷ xs) xs) ≤ suc n
few_here k xs n le true = omega (arith, le)
few_here k xs n le false = omega (arith, le)

places_few : (p : Rule → Bool) (k : ℕ) (rules : List Rule) → length (places_from p k rules) ≤ length rules
places_few p k [] = omega arith
places_few p k (r ∷ rs) = few_here k (places_from p (k + 1) rs) (length rs) (places_few p (k + 1) rs) (p r)

each_here : (k : ℕ) (xs : List ℕ) (n : ℕ) → length xs ≤ n → (length xs ≡ n → (i : ℕ) → i < n → get_or xs i 0 ≡ (k + 1) + i) →
    (b : Bool) → length (cond b (k ∷ xs) xs) ≡ suc n → (i : ℕ) → i < suc n → get_or (cond b (k ∷ xs) xs) i 0 ≡ k + i
each_here k xs n le each true len zero lt = omega arith
each_here k xs n le each true len (suc i) lt = omega (arith, each (omega (arith, len)) i (omega arith))
each_here k xs n le each false len i lt = absurd (omega (arith, le, len))

pub all_places : (p : Rule → Bool) (k : ℕ) (rules : List Rule) → length (places_from p k rules) ≡ length rules → (i : ℕ) → i < length rules → get_or (places_from p k rules) i 0 ≡ k + i
all_places p k [] len i lt = absurd (omega arith)
all_places p k (r ∷ rs) len i lt = each_here k (places_from p (k + 1) rs) (length rs) (places_few p (k + 1) rs) (λ same j less. all_places p (k + 1) rs same j less) (p r) len i lt
