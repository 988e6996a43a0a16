-- From a boundary on, the rest is a function of what is left of the text and of the stack, moved by the place.
use Rattle.std.proofs.Common.{◌≡◌, ℕ, zero, suc, ◌+◌, List, [], ◌∷◌, ◌++◌, drop, map, Option, Some, None, refl, sym, ap, ap₂, ◌∙◌, subst, slice_get, add_assoc}
use Rattle.std.proofs.lemmas.Option.{none-some, same_Some}
use Rattle.std.proofs.lemmas.List.{drop-drop, map-append}
use Rattle.lrlex_rules.specs.Definition.{Definition}
use Rattle.lrlex_rules.specs.Active.{rule_at, lexeme_id}
use Rattle.lrlex_rules.specs.Tiling.{Tile}
use Rattle.lrlex_rules.specs.Tiling.{Item, Error, End, Done, NoMatch, NoId, NoTarget, stack_past, IsTiling, lexeme_of, tile_items, end_items, items, boundaries, moved}

pub tail_tiling : (d : Definition) (text : List ℕ) (place : ℕ) (stack : List ℕ) (ts : List Tile) (e : End) (k : ℕ) (p : ℕ) (s : List ℕ) →
    IsTiling d (drop place text) stack ts e → slice_get (boundaries d place stack ts) k ≡ Some (p, s) →
    IsTiling d (drop p text) s (drop k ts) e
tail_tiling d text place stack [] e zero p s is at =
    subst (λ (b : ℕ × List ℕ). IsTiling d (drop b.0 text) b.1 [] e) (same_Some _ _ at) is
tail_tiling d text place stack [] e (suc k) p s is at = absurd (none-some _ at)
tail_tiling d text place stack (t ∷ ts) e zero p s is at =
    subst (λ (b : ℕ × List ℕ). IsTiling d (drop b.0 text) b.1 (t ∷ ts) e) (same_Some _ _ at) is
tail_tiling d text place stack (t ∷ ts) e (suc k) p s is at =
    tail_tiling d text (place + t.len) (stack_past d stack t) ts e k p s
    (subst (λ rest. IsTiling d rest (stack_past d stack t) ts e) (drop-drop t.len place text) is.1) at

lexeme_moved : (o : Option ℕ) (n place len : ℕ) → lexeme_of o (n + place) len ≡ map (moved n) (lexeme_of o place len)
lexeme_moved None n place len = refl
lexeme_moved (Some id) n place len = refl

end_moved : (d : Definition) (n place : ℕ) (e : End) → end_items d (n + place) e ≡ map (moved n) (end_items d place e)
end_moved d n place Done = refl
end_moved d n place (NoMatch q) = refl
end_moved d n place NoId = refl
end_moved d n place (NoTarget t) =
    ap (λ (xs : List Item). xs ++ Error (n + place) (n + place) None ∷ []) (lexeme_moved (lexeme_id (rule_at d t.rule)) n place t.len)
    ∙ sym (map-append (moved n) (tile_items d place t) (Error place place None ∷ []))

-- the items from a place on are those from another, moved
pub items_moved : (d : Definition) (n place : ℕ) (ts : List Tile) (e : End) → items d (n + place) ts e ≡ map (moved n) (items d place ts e)
items_moved d n place [] e = end_moved d n place e
items_moved d n place (t ∷ ts) e =
    ap₂ ◌++◌ (lexeme_moved (lexeme_id (rule_at d t.rule)) n place t.len)
    (ap (λ p. items d p ts e) (add_assoc n place t.len) ∙ items_moved d n (place + t.len) ts e)
    ∙ sym (map-append (moved n) (tile_items d place t) (items d (place + t.len) ts e))

pub boundaries_moved : (d : Definition) (n place : ℕ) (stack : List ℕ) (ts : List Tile) →
    boundaries d (n + place) stack ts ≡ map (λ (b : ℕ × List ℕ). (n + b.0, b.1)) (boundaries d place stack ts)
boundaries_moved d n place stack [] = refl
boundaries_moved d n place stack (t ∷ ts) =
    ap (λ (bs : List (ℕ × List ℕ)). (n + place, stack) ∷ bs)
    (ap (λ p. boundaries d p (stack_past d stack t) ts) (add_assoc n place t.len)
    ∙ boundaries_moved d n (place + t.len) (stack_past d stack t) ts)
