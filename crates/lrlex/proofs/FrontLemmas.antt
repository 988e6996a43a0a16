-- What stands in front of what a run has found.
use Rattle.std.proofs.Common.{◌≡◌, ℕ, suc, ◌-◌, ◌<◌, List, [], ◌∷◌, ◌++◌, length, refl, sym, ap, ◌∙◌, arith, append_assoc, length-append}
use Rattle.lrlex_rules.specs.Definition.{Definition}
use Rattle.lrlex_rules.specs.Tiling.{Item}
use Rattle.lrlex.specs.Reach.{Reached}
use Rattle.lrlex_boundaries.specs.Boundaries.{Boundary, boundary_at, last_entries}
use Rattle.lrlex.proofs.ReachLemmas.{length_now}

-- the last of two lists is that of the second
pub last_behind : (xs ys : List Boundary) → 0 < length ys → last_entries (xs ++ ys) ≡ last_entries ys
last_behind [] ys some = refl
last_behind (x ∷ xs) ys some =
    let n : length (x ∷ (xs ++ ys)) - 1 ≡ suc (length (xs ++ ys) - 1) = omega (arith, length-append xs ys) in
    ap (λ i. (boundary_at (x ∷ (xs ++ ys)) i).entries) n ∙ last_behind xs ys some

-- what is added behind the second is added behind both
pub joined : {A : Type 0} (front old new more : List A) → new ≡ old ++ more → front ++ new ≡ (front ++ old) ++ more
joined front old new more e = ap (λ xs. front ++ xs) e ∙ sym (append_assoc front old more)

-- a run has the boundary at which it stands
pub some_now : (d : Definition) (text : List ℕ) (place : ℕ) (stack : List (ℕ × ℕ)) (found : List Item) (bounds : List Boundary) (asked : ℕ) →
    Reached d text place stack found bounds asked → 0 < length bounds
some_now d text place stack found bounds asked r = omega (arith, length_now d text place stack found bounds asked r)
