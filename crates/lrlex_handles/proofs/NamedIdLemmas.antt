-- Ids by names, entry by entry.
use Rattle.std.proofs.Common.{◌≡◌, ℕ, ◌+◌, ◌<◌, Bool, true, false, cond, List, [], ◌∷◌, ◌++◌, length, map, take, get_or, refl, sym, ap, ◌∙◌, Option, Some, option_map, reverse}
use Rattle.std.proofs.lemmas.List.{map_more, reverse-append}
use Rattle.std.specs.List.{find}
use Rattle.std.specs.Str.{bytes_eq}
use Rattle.lrlex_handles.specs.NamedIds.{id_by}
use Rattle.lrlex_handles.specs.declared.structs.NamedId.{NamedId}

-- a list as it is
same_list : {X : Type 0} (xs : List X) → map (λ x. x) xs ≡ xs
same_list [] = refl
same_list (x ∷ xs) = ap (λ ys. x ∷ ys) (same_list xs)

take_more : {X : Type 0} (xs : List X) (i : ℕ) (d : X) → i < length xs → take (i + 1) xs ≡ take i xs ++ get_or xs i d ∷ []
take_more xs i d within =
    sym (same_list (take (i + 1) xs)) ∙ map_more (λ x. x) xs i d within ∙ ap (λ ys. ys ++ get_or xs i d ∷ []) (same_list (take i xs))

chosen : (b : Bool) (e : NamedId) (o : Option NamedId) → option_map (λ (e : NamedId). e.id) (cond b (Some e) o) ≡ cond b (Some e.id) (option_map (λ (e : NamedId). e.id) o)
chosen true e o = refl
chosen false e o = refl

-- one more entry has its id, or what the others have
pub id_more : (entries : List NamedId) (i : ℕ) (d : NamedId) (name : List ℕ) → i < length entries
    → id_by (take (i + 1) entries) name ≡ cond (bytes_eq (get_or entries i d).name.now name) (Some (get_or entries i d).id) (id_by (take i entries) name)
id_more entries i d name within =
    let e = get_or entries i d in
    ap (λ xs. id_by xs name) (take_more entries i d within)
    ∙ ap (λ xs. option_map (λ (e : NamedId). e.id) (find (λ (e : NamedId). bytes_eq e.name.now name) xs)) (reverse-append (take i entries) (e ∷ []))
    ∙ chosen (bytes_eq e.name.now name) e (find (λ (e : NamedId). bytes_eq e.name.now name) (reverse (take i entries)))

-- what a map has after an entry was put in, as a number
pub mapped : (b : Bool) (v : ℕ) (o p : Option ℕ) → option_map (λ (n : ℕ). n) o ≡ p → option_map (λ (n : ℕ). n) (cond b (Some v) o) ≡ cond b (Some v) p
mapped true v o p e = refl
mapped false v o p e = e

-- a key that is the same text
pub same_key : (key own name : List ℕ) (v p : Option ℕ) → key ≡ own → cond (bytes_eq key name) v p ≡ cond (bytes_eq own name) v p
same_key key own name v p e = ap (λ bs. cond (bytes_eq bs name) v p) e
