-- The rule that gives a lexeme, and its name.
use Rattle.std.proofs.Common.{◌≡◌, ◌∙◌, ap, sym, refl, ℕ, zero, suc, ◌==◌, Bool, true, false, ◌&&◌, true≢false, List, [], ◌∷◌, map, slice_get, Option, Some, None, arith}
use Rattle.std.proofs.lemmas.Bool.{cond-true, cond-false, eqb-true, false_from_ne_true, and_parts}
use Rattle.std.proofs.lemmas.Option.{same_Some, none-some}
use Rattle.std.specs.Option.{option_map, option_map_or, option_and_then}
use Rattle.std.specs.List.{find}
use Rattle.lrlex_rules.specs.Definition.{Rule}
use Rattle.lrlex_rules.specs.RuleParts.{RuleParts, as_rule}
use Rattle.lrlex_rules.specs.Ids.{gives, name_of, HaveDistinctIds}
use Rattle.lrlex_rules.proofs.ViewLemmas.{find-map}

-- the name of the rule that is found
pub named : {S : Type 0} (number : S → ℕ) (rules : List (RuleParts S)) (id : ℕ) (found : Option (RuleParts S)) → found ≡ find (λ r. gives id (as_rule number r)) rules
    → option_and_then (λ (r : Rule). r.name) (option_map (as_rule number) found) ≡ name_of (map (as_rule number) rules) id
named number rules id found e =
    sym (ap (λ (o : Option Rule). option_and_then (λ (r : Rule). r.name) o) (find-map (as_rule number) (gives id) rules ∙ ap (option_map (as_rule number)) (sym e)))

-- ---- where ids differ

-- the item that passes, where none of another place does
find_only : {X : Type 0} (p : X → Bool) (xs : List X) (i : ℕ) (x : X) → slice_get xs i ≡ Some x → p x ≡ true
    → ((j : ℕ) (y : X) → slice_get xs j ≡ Some y → p y ≡ true → j ≡ i) → find p xs ≡ Some x
find_only p [] i x at passes only = absurd (none-some _ at)
find_only p (y ∷ ys) zero x at passes only = cond-true (p y) (Some y) (find p ys) (ap p (same_Some _ _ at) ∙ passes) ∙ at
find_only p (y ∷ ys) (suc i) x at passes only =
    let fails = false_from_ne_true (p y) (λ e. absurd (omega (arith, only zero y refl e))) in
    cond-false (p y) (Some y) (find p ys) fails
    ∙ find_only p ys i x at passes (λ j z here also. omega (arith, only (suc j) z here also))

-- the id of a rule that gives a number
id_given : {S : Type 0} (number : S → ℕ) (o : Option S) (b : Bool) (n : ℕ)
    → (option_map_or (λ own. own == n) (option_map number o) false && b) ≡ true → (id : S) × (o ≡ Some id) × (number id ≡ n)
id_given number None b n e = absurd (true≢false (sym e))
id_given number (Some id) b n e = (id, refl, eqb-true _ _ (and_parts (number id == n) b e).0)

-- a rule that gives the number is the first that does
pub found_alone : {S : Type 0} (number : S → ℕ) (rules : List (RuleParts S)) (n i : ℕ) (r : RuleParts S) (b : Bool) → ((x y : S) → number x ≡ number y → x ≡ y)
    → HaveDistinctIds rules → slice_get rules i ≡ Some r → b ≡ gives n (as_rule number r) → b ≡ true → Some r ≡ find (λ x. gives n (as_rule number x)) rules
found_alone number rules n i r b same distinct at tested is =
    let passes : gives n (as_rule number r) ≡ true = sym tested ∙ is in
    let own = id_given number r.tok_id _ n passes in
    sym (find_only (λ x. gives n (as_rule number x)) rules i r at passes
    (λ j y here also. let other = id_given number y.tok_id _ n also in
    distinct j i y r own.0 here at (other.1 ∙ ap (λ id. Some id) (same other.0 own.0 (other.2 ∙ sym own.2))) own.1))
