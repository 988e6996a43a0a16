-- Where lexing begins.
use Rattle.std.proofs.Common.{◌≡◌, ℕ, true, List, [], ◌∷◌, Result, sym, subst}
use Rattle.lrlex_base.specs.LexemeParts.{LexemeParts}
use Rattle.lrlex_rules.specs.Definition.{Definition}
use Rattle.lrlex_rules.specs.Active.{is_state}
use Rattle.lrlex_boundaries.specs.Boundaries.{Boundary}
use Rattle.lrlex.specs.Reach.{Reached}
use Rattle.lrlex.specs.Lookahead.{HasLooked}
use Rattle.lrlex.specs.Views.{items_by}
use Rattle.lrlex_rules.specs.declared.errors.LRLexError.{LRLexError}
use Rattle.lrlex.proofs.LookaheadLemmas.{looked_start}
use Rattle.lrlex.proofs.ReachLemmas.{Reached-none}

pub begun : {S X : Type 0} (d : Definition) (text : List ℕ) (number : S → ℕ) (see : X → LexemeParts S) (place : ℕ) (stack : List (ℕ × ℕ)) (xs : List (Result X LRLexError)) (bounds : List Boundary) (asked : ℕ)
    → place ≡ 0 → stack ≡ (1, 0) ∷ [] → xs ≡ [] → bounds ≡ record { place = 0; entries = (1, 0) ∷ [] } ∷ [] → asked ≡ 0 → is_state d 0 ≡ true
    → Reached d text place stack (items_by number see xs) bounds asked
begun d text number see place stack xs bounds asked at is_stack none one unasked initial =
    subst (λ i. Reached d text i stack (items_by number see xs) bounds asked) (sym at)
    (subst (λ s. Reached d text 0 s (items_by number see xs) bounds asked) (sym is_stack)
    (subst (λ ys. Reached d text 0 ((1, 0) ∷ []) (items_by number see ys) bounds asked) (sym none)
    (subst (λ ms. Reached d text 0 ((1, 0) ∷ []) [] ms asked) (sym one)
    (subst (λ n. Reached d text 0 ((1, 0) ∷ []) [] (record { place = 0; entries = (1, 0) ∷ [] } ∷ []) n) (sym unasked) (Reached-none d text initial)))))

pub begun_looking : (d : Definition) (text : List ℕ) (bounds : List Boundary) (ahead : List ℕ) (place lookahead : ℕ)
    → bounds ≡ record { place = 0; entries = (1, 0) ∷ [] } ∷ [] → ahead ≡ 0 ∷ [] → place ≡ 0 → lookahead ≡ 0 → HasLooked d text bounds ahead place lookahead
begun_looking d text bounds ahead place lookahead one numbers at none =
    let m : Boundary = record { place = 0; entries = (1, 0) ∷ [] } in
    subst (λ ms. HasLooked d text ms ahead place lookahead) (sym one)
    (subst (λ ns. HasLooked d text (m ∷ []) ns place lookahead) (sym numbers)
    (subst (λ i. HasLooked d text (m ∷ []) (0 ∷ []) i lookahead) (sym at)
    (subst (λ n. HasLooked d text (m ∷ []) (0 ∷ []) 0 n) (sym none) (looked_start d text m 0 0))))
