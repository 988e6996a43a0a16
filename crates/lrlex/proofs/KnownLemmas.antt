-- What is known of an old run.
use Rattle.std.proofs.Common.{◌≡◌, ℕ, zero, suc, ◌+◌, ◌<◌, ◌≤◌, Bool, true, false, List, [], ◌∷◌, length, map, drop, get_or, refl, sym, ap, ap₂, ◌∙◌, subst, arith}
use Rattle.std.specs.Coded.{×_prop, Unit-prop, →_prop, le_prop}
use Rattle.std.proofs.Props.{props}
use Rattle.std.proofs.Math.Logic.{∥∥₁_elim}
use Rattle.std.proofs.lemmas.List.{drop-drop, length-drop, get_or-map, length-map}
use Rattle.lrlex_rules.specs.Definition.{Definition}
use Rattle.lrlex_rules.specs.Active.{is_state}
use Rattle.lrlex_rules.specs.Tiling.{Item, Item-set, End, IsTiling, stack_past, items, boundaries}
use Rattle.lrlex_boundaries.specs.Entries.{Differ, AreEntries}
use Rattle.lrlex_boundaries.specs.Boundaries.{Boundary, place_and_stack, no_boundary, boundary_at}
use Rattle.lrlex_boundaries.specs.Moves.{AreSorted}
use Rattle.lrlex.specs.Reach.{IsLexed, IsRun}
use Rattle.lrlex_rules.specs.Tiling.{Tile}
use Rattle.lrlex_rules.proofs.BestLemmas.{HasTiling, a_tiling}
use Rattle.lrlex_rules.proofs.TilingLemmas.{one_tiling, only_one, Wins-le}
use Rattle.lrlex.proofs.WithinLemmas.{bounds_within}

pub Differ-prop : (rs : List (ℕ × ℕ)) → IsProp (Differ rs)
Differ-prop [] = Unit-prop
Differ-prop (r ∷ []) = Unit-prop
Differ-prop (r ∷ s ∷ rs) = ×_prop (→_prop (λ x y. absurd x)) (Differ-prop (s ∷ rs))

module _ (d : Definition) (text : List ℕ) (found : List Item) (bounds : List Boundary) (initial : is_state d 0 ≡ true) (t : ∥ IsRun d text found bounds ∥₁) where
  tiling : HasTiling d text (0 ∷ [])
  tiling = a_tiling d text (0 ∷ [])

  -- a run that is known to be there is one
  pub known : IsLexed d text found bounds
  known = record {
    cut = tiling.tiles;
    end = tiling.end;
    tiling = tiling.is;
    only = only_one d text tiling.tiles tiling.end tiling.is;
    items_are = ∥∥₁_elim t (items_prop found (items d 0 tiling.tiles tiling.end)) (λ r. let h = r.lexed initial in
        let same = one_tiling d text (0 ∷ []) h.cut tiling.tiles h.end tiling.end h.tiling tiling.is in
        h.items_are ∙ ap₂ (items d 0) same.tiles same.end);
    boundaries_are = ∥∥₁_elim t (bounds_prop (map place_and_stack bounds) (boundaries d 0 (0 ∷ []) tiling.tiles)) (λ r. let h = r.lexed initial in
        let same = one_tiling d text (0 ∷ []) h.cut tiling.tiles h.end tiling.end h.tiling tiling.is in
        h.boundaries_are ∙ ap (boundaries d 0 (0 ∷ [])) same.tiles);
    entries = λ k m within. record {
      some = λ i x below. ∥∥₁_elim t le_prop (λ r. ((r.lexed initial).entries k m within).some i x below);
      differ = ∥∥₁_elim t (Differ-prop (get_or bounds k m).entries) (λ r. ((r.lexed initial).entries k m within).differ);
    };
  } where
    items_prop : (xs ys : List Item) → IsProp (xs ≡ ys)
    items_prop xs ys = Prim.hlevel (props, Item-set)

    bounds_prop : (xs ys : List (ℕ × List ℕ)) → IsProp (xs ≡ ys)
    bounds_prop xs ys = Prim.hlevel props

-- places rise
rising_bounds : (d : Definition) (text : List ℕ) (place : ℕ) (stack : List ℕ) (ts : List Tile) (e : End) → IsTiling d (drop place text) stack ts e → place ≤ length text →
    (i j : ℕ) → i < j → j < length (boundaries d place stack ts) → (b c : ℕ × List ℕ) → (get_or (boundaries d place stack ts) i b).0 < (get_or (boundaries d place stack ts) j c).0
rising_bounds d text place stack [] e is le i j lt within b c = absurd (omega arith)
rising_bounds d text place stack (t ∷ ts) e is le i zero lt within b c = absurd (omega arith)
rising_bounds d text place stack (t ∷ ts) e is le zero (suc j) lt within b c =
    let n = Wins-le d _ (drop place text) t.rule t.len is.0.wins in
    let rest = subst (λ w. IsTiling d w (stack_past d stack t) ts e) (drop-drop t.len place text) is.1 in
    let h = bounds_within d text (place + t.len) (place + t.len) (stack_past d stack t) ts e rest (omega arith) (omega (arith, n, length-drop place text)) j c (omega arith) in
    omega (arith, h.0, is.0.wins.some)
rising_bounds d text place stack (t ∷ ts) e is le (suc i) (suc j) lt within b c =
    let n = Wins-le d _ (drop place text) t.rule t.len is.0.wins in
    let rest = subst (λ w. IsTiling d w (stack_past d stack t) ts e) (drop-drop t.len place text) is.1 in
    rising_bounds d text (place + t.len) (stack_past d stack t) ts e rest (omega (arith, n, length-drop place text)) i j (omega arith) (omega arith) b c

pub sorted : (d : Definition) (text : List ℕ) (found : List Item) (bounds : List Boundary) → IsLexed d text found bounds → AreSorted bounds
sorted d text found bounds h = record {
  rising = λ i j lt within.
      let len : length (boundaries d 0 (0 ∷ []) h.cut) ≡ length bounds = ap length (sym h.boundaries_are) ∙ length-map bounds place_and_stack in
      let r = rising_bounds d text 0 (0 ∷ []) h.cut h.end h.tiling (omega arith) i j lt (omega arith) (place_and_stack no_boundary) (place_and_stack no_boundary) in
      let a : (get_or (boundaries d 0 (0 ∷ []) h.cut) i (place_and_stack no_boundary)).0 ≡ (boundary_at bounds i).place = ap (λ bs. (get_or bs i (place_and_stack no_boundary)).0) (sym h.boundaries_are) ∙ ap (λ (b : ℕ × List ℕ). b.0) (get_or-map place_and_stack bounds i no_boundary (place_and_stack no_boundary) (omega arith)) in
      let b : (get_or (boundaries d 0 (0 ∷ []) h.cut) j (place_and_stack no_boundary)).0 ≡ (boundary_at bounds j).place = ap (λ bs. (get_or bs j (place_and_stack no_boundary)).0) (sym h.boundaries_are) ∙ ap (λ (b : ℕ × List ℕ). b.0) (get_or-map place_and_stack bounds j no_boundary (place_and_stack no_boundary) (omega arith)) in
      omega (arith, r, a, b);
  entries = h.entries;
}

none_there : (bounds : List Boundary) (k : ℕ) → bounds ≡ [] → k < length bounds → ⊥
none_there bounds k e lt = absurd (omega (arith, ap length e))

by_state : (d : Definition) (text : List ℕ) (found : List Item) (bounds : List Boundary) → ∥ IsRun d text found bounds ∥₁ → (k : ℕ) → k < length bounds → (b : Bool) → is_state d 0 ≡ b → AreEntries (boundary_at bounds k).entries
by_state d text found bounds t k lt true e = (known d text found bounds e t).entries k no_boundary lt
by_state d text found bounds t k lt false e = absurd (∥∥₁_elim t (λ x y. absurd x) (λ r. none_there bounds k (r.stateless e).boundaries_are lt))

-- each stack of a run is of entries
pub stack_entries : (d : Definition) (text : List ℕ) (found : List Item) (bounds : List Boundary) → ∥ IsRun d text found bounds ∥₁ → (k : ℕ) → k < length bounds → AreEntries (boundary_at bounds k).entries
stack_entries d text found bounds t k lt = by_state d text found bounds t k lt (is_state d 0) refl
