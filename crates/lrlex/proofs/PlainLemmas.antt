-- Lexemes that are stored first and then counted or not, and stacks that stay.
use Rattle.std.proofs.Common.{◌≡◌, ℕ, Bool, true, false, List, [], ◌∷◌, ◌++◌, length, take, Option, Some, None, option_map, if◌then◌else◌, refl, sym, ap, ◌∙◌, arith, length-append}
use Rattle.std.proofs.lemmas.List.{take_at}
use Rattle.lrlex_rules.specs.declared.states.StartStateOperation.{StartStateOperation}
use Rattle.lrlex_rules.specs.Tiling.{stack_after}

-- what is left where one was put behind and the last one taken away
pub taken_away : {A : Type 0} (xs ys : List A) (x y : A) → xs ++ x ∷ [] ≡ ys ++ y ∷ [] → ys ≡ xs
taken_away xs ys x y e =
    let n : length ys ≡ length xs = omega (arith, ap length e, length-append xs (x ∷ []), length-append ys (y ∷ [])) in
    sym (take_at ys (y ∷ []) (length ys) refl) ∙ ap (take (length ys)) (sym e) ∙ take_at xs (x ∷ []) (length ys) (sym n)

-- an id that counts where there is a name, by its number
pub gives_own : {S : Type 0} (number : S → ℕ) (id : S) (named : Bool) →
    option_map number (if named then Some id else None) ≡ (if named then Some (number id) else None)
gives_own number id true = refl
gives_own number id false = refl

-- without a target the stack stays
pub stays : (stack : List ℕ) (target : Option (ℕ × StartStateOperation)) → target ≡ None → stack_after stack target ≡ stack
unfolding stack_after
stays stack target e = ap (stack_after stack) e
