-- The place of a rule, noted in the lists of the states that the rule lists.
use Rattle.std.proofs.Common.{◌≡◌, ◌≢◌, ℕ, zero, suc, ◌+◌, ◌<◌, ◌≤◌, Bool, true, false, cond, ◌||◌, ◌==◌, List, [], ◌∷◌, ◌++◌, length, take, get_or, All, refl, sym, ap, subst, ◌∙◌, arith, eq-eqb}
use Rattle.std.proofs.lemmas.Bool.{eqb-true}
use Rattle.std.proofs.lemmas.List.{append-nil}
use Rattle.std.proofs.lemmas.List.Folds.{list_any_more}
use Rattle.std.specs.List.{list_any}
use Rattle.lrlex_rules.specs.Definition.{Rule}
use Rattle.lrlex_rules.specs.Active.{places_from}

-- one more id: it stands for this state, or for another
or_true : (b : Bool) → (b || true) ≡ true
or_true true = refl
or_true false = refl

or_false : (b : Bool) → (b || false) ≡ b
or_false true = refl
or_false false = refl

test_false : (n q : ℕ) (b : Bool) → n ≢ q → (n == q) ≡ b → b ≡ false
test_false n q true ne e = absurd (ne (eqb-true n q e))
test_false n q false ne e = refl

pub id_here : (ids : List ℕ) (k q : ℕ) → k < length ids → get_or ids k 0 ≡ q → list_any (λ s. s == q) (take (k + 1) ids) ≡ true
id_here ids k q lt e =
    list_any_more (λ s. s == q) ids k 0 lt ∙ ap (λ b. list_any (λ s. s == q) (take k ids) || b) (eq-eqb _ _ e) ∙ or_true _

pub id_other : (ids : List ℕ) (k q : ℕ) → k < length ids → get_or ids k 0 ≢ q → list_any (λ s. s == q) (take (k + 1) ids) ≡ list_any (λ s. s == q) (take k ids)
id_other ids k q lt ne =
    list_any_more (λ s. s == q) ids k 0 lt ∙ ap (λ b. list_any (λ s. s == q) (take k ids) || b) (test_false _ q _ ne refl) ∙ or_false _

-- a place that may stand at the end already is put there once
pub put_once : (old now held new : List ℕ) (place : ℕ) (b : Bool) → now ≡ held → All (λ p. p < place) old → now ≡ old ++ cond b (place ∷ []) [] →
    ((rest : List ℕ) → held ≡ rest ++ place ∷ [] → new ≡ held) → (All (λ p. p < place) held → new ≡ held ++ place ∷ []) → new ≡ old ++ place ∷ []
put_once old now held new place true here below is there put = let same : held ≡ old ++ place ∷ [] = sym here ∙ is in there old same ∙ same
put_once old now held new place false here below is there put =
    let same : held ≡ old = sym here ∙ is ∙ append-nil old in
    put (subst (All (λ p. p < place)) (sym same) below) ∙ ap (λ xs. xs ++ place ∷ []) same

-- the places of rules are below their number
below_here : (k n : ℕ) (xs : List ℕ) → k < n → All (λ p. p < n) xs → (b : Bool) → All (λ p. p < n) (cond b (k ∷ xs) xs)
below_here k n xs lt all true zero d within = lt
below_here k n xs lt all true (suc i) d within = all i d (omega arith)
below_here k n xs lt all false i d within = all i d within

pub places_below : (p : Rule → Bool) (k n : ℕ) (rules : List Rule) → k + length rules ≤ n → All (λ i. i < n) (places_from p k rules)
places_below p k n [] le = λ i d within. absurd (omega arith)
places_below p k n (r ∷ rs) le = below_here k n (places_from p (k + 1) rs) (omega arith) (places_below p (k + 1) n rs (omega arith)) (p r)
