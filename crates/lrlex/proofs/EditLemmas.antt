-- After an edit, the rest of the old run is the rest of the new one, moved.
use Rattle.std.proofs.Common.{◌≡◌, ℕ, zero, suc, ◌+◌, ◌-◌, ◌≤◌, List, [], ◌∷◌, ◌++◌, length, take, drop, map, Some, refl, sym, ap, ap₂, ◌∙◌, arith, slice_get, append_assoc, length-append}
use Rattle.std.proofs.lemmas.Option.{none-some, same_Some}
use Rattle.std.proofs.lemmas.List.{drop-drop, drop_at, length-take-le}
use Rattle.lrlex_rules.specs.Definition.{Definition}
use Rattle.lrlex_rules.specs.Tiling.{Item, Lexeme, Error, End, stack_past, tile_items, items, boundaries, moved, rebased, lexemes}
use Rattle.lrlex_base.specs.Spans.{span}
use Rattle.lrlex_base.specs.Edits.{edited}
use Rattle.lrlex_rules.specs.Tiling.{Tile}
use Rattle.lrlex.proofs.TailLemmas.{items_moved}

-- what follows an edit is what followed the part that it replaced
pub drop-edited : (old : List ℕ) (low high : ℕ) (put : List ℕ) (p q : ℕ) → low ≤ high → high ≤ length old → low + length put ≤ q →
    p + (low + length put) ≡ q + high → drop q (edited old (span low high) put) ≡ drop p old
drop-edited old low high put p q le within past at =
    let n : ℕ = q - (low + length put) in
    let front : length (take low old ++ put) ≡ low + length put = omega (arith, length-append (take low old) put, length-take-le low old (omega arith)) in
    let to : (low + length put) + n ≡ q = omega arith in
    let from : high + n ≡ p = omega arith in
    ap (λ i. drop i (edited old (span low high) put)) (sym to)
    ∙ sym (drop-drop n (low + length put) (edited old (span low high) put))
    ∙ ap (λ xs. drop n (drop (low + length put) xs)) (sym (append_assoc (take low old) put (drop high old)))
    ∙ ap (drop n) (drop_at (take low old ++ put) (drop high old) (low + length put) front)
    ∙ drop-drop n high old ∙ ap (λ i. drop i old) from

-- the items from a boundary on are the last of all
pub items_tail : (d : Definition) (place : ℕ) (stack : List ℕ) (ts : List Tile) (e : End) (k p : ℕ) (s : List ℕ) →
    slice_get (boundaries d place stack ts) k ≡ Some (p, s) → items d place ts e ≡ lexemes d place (take k ts) ++ items d p (drop k ts) e
items_tail d place stack [] e zero p s at = ap (λ (b : ℕ × List ℕ). items d b.0 [] e) (same_Some _ _ at)
items_tail d place stack [] e (suc k) p s at = absurd (none-some _ at)
items_tail d place stack (t ∷ ts) e zero p s at = ap (λ (b : ℕ × List ℕ). items d b.0 (t ∷ ts) e) (same_Some _ _ at)
items_tail d place stack (t ∷ ts) e (suc k) p s at =
    ap (λ xs. tile_items d place t ++ xs) (items_tail d (place + t.len) (stack_past d stack t) ts e k p s at)
    ∙ sym (append_assoc (tile_items d place t) (lexemes d (place + t.len) (take k ts)) (items d p (drop k ts) e))

rebased_item : (p q : ℕ) (i : Item) → rebased p q (moved p i) ≡ moved q i
rebased_item p q (Lexeme id start len faulty) =
    let same : (p + start + q) - p ≡ q + start = omega arith in
    ap (λ n. Lexeme id n len faulty) same
rebased_item p q (Error start end state) =
    let first : (p + start + q) - p ≡ q + start = omega arith in
    let last : (p + end + q) - p ≡ q + end = omega arith in
    ap₂ (λ m n. Error m n state) first last

rebased_all : (p q : ℕ) (xs : List Item) → map (rebased p q) (map (moved p) xs) ≡ map (moved q) xs
rebased_all p q [] = refl
rebased_all p q (x ∷ xs) = ap₂ ◌∷◌ (rebased_item p q x) (rebased_all p q xs)

-- the items of the same tiles at another place
pub items_rebased : (d : Definition) (p q : ℕ) (ts : List Tile) (e : End) → items d q ts e ≡ map (rebased p q) (items d p ts e)
items_rebased d p q ts e =
    let at_p : items d p ts e ≡ map (moved p) (items d 0 ts e) = let z : p + 0 ≡ p = omega arith in ap (λ i. items d i ts e) (sym z) ∙ items_moved d p 0 ts e in
    let at_q : items d q ts e ≡ map (moved q) (items d 0 ts e) = let z : q + 0 ≡ q = omega arith in ap (λ i. items d i ts e) (sym z) ∙ items_moved d q 0 ts e in
    at_q ∙ sym (rebased_all p q (items d 0 ts e)) ∙ ap (map (rebased p q)) (sym at_p)
