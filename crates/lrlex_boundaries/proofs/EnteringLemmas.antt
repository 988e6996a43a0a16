-- The tile that entered the start state at the end, from what the search for it says.
use Rattle.std.proofs.Common.{◌≡◌, ℕ, ◌-◌, ◌<◌, List, length, Option, Some, None, IfSome, IsNone, MatchOption, refl, sym, subst, le_refl, arith}
use Rattle.std.specs.Prelude.{slice_get}
use Rattle.lrlex_boundaries.specs.Boundaries.{Boundary, boundary_at}
use Rattle.lrlex_boundaries.specs.Entering.{AllKeepEnd, IsEntering, Keeps, KeepsTop, end_at, end_entry}

-- what a boundary's stack has at the place of the entry on top at the end
abbrev there : List Boundary → ℕ → Option (ℕ × ℕ)
there bounds k = slice_get (boundary_at bounds k).entries (end_at bounds)

last_keeps : (bounds : List Boundary) (top : ℕ × ℕ) → end_entry bounds ≡ Some top → Keeps top (there bounds (length bounds - 1))
last_keeps bounds top e = subst (Keeps top) (sym e) (refl, le_refl top.0)

pub found_entering : (bounds : List Boundary) (top : ℕ × ℕ) (found : Option ℕ) → 0 < length bounds → end_entry bounds ≡ Some top
    → IfSome found (λ k. k < length bounds)
    → IfSome found (λ k. ¬ (Keeps top (there bounds k)))
    → IfSome found (λ k. (j : ℕ) → k < j → j < length bounds → Keeps top (there bounds j))
    → (IsNone found → (j : ℕ) → j < length bounds → Keeps top (there bounds j))
    → MatchOption found (AllKeepEnd bounds) (IsEntering bounds)
found_entering bounds top None some e _ _ _ none = λ k h. subst (λ (o : Option (ℕ × ℕ)). KeepsTop o (there bounds k)) (sym e) (none refl k h)
found_entering bounds top (Some k) some e within lacks behind _ =
    let no : k ≡ length bounds - 1 → ⊥ = λ q. lacks (subst (λ (n : ℕ). Keeps top (there bounds n)) (sym q) (last_keeps bounds top e)) in
    record {
      within = omega (arith, within, some);
      before = λ q. lacks (subst (λ (o : Option (ℕ × ℕ)). KeepsTop o (there bounds k)) e q);
      behind = λ j a b. subst (λ (o : Option (ℕ × ℕ)). KeepsTop o (there bounds j)) (sym e) (behind j a b);
    }
