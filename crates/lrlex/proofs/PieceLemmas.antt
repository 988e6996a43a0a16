-- The tiles of a run, one by one, with the stacks that they are cut with.
use Rattle.std.proofs.Common.{◌≡◌, ◌↔◌, ℕ, zero, suc, ◌+◌, ◌-◌, ◌<◌, ◌≤◌, max, true, Result, Ok, Err, IfOk, List, [], ◌∷◌, ◌++◌, length, drop, Some, slice_get, refl, sym, ap, ◌∙◌, subst, inl, inr, arith, IsCharBoundary}
use Rattle.std.proofs.lemmas.Bool.{cases_lt}
use Rattle.std.proofs.lemmas.List.{length_push, get_or_append_left, get_or_push}
use Rattle.std.proofs.lemmas.Option.{slice_get-get_or, slice_get_within, get_or_from_slice_get}
use Rattle.std.proofs.lemmas.Str.{IsCharBoundary-start, IsCharBoundary-from_rest}
use Rattle.lrlex_rules.specs.Definition.{Definition}
use Rattle.lrlex_table.specs.Reach.{IsText}
use Rattle.lrlex_rules.specs.Active.{is_state, rule_at}
use Rattle.lrlex_boundaries.specs.Boundaries.{Boundary, boundary_at}
use Rattle.lrlex.specs.Pieces.{IsPiece, HasByteIn}
use Rattle.lrlex_boundaries.specs.Moves.{AreSorted}
use Rattle.lrlex.specs.Reach.{IsLexed}
use Rattle.lrlex_boundaries.specs.Entries.{plain}
use Rattle.lrlex_rules.specs.Tiling.{Item, Tile, Wins, top, stack_past}
use Rattle.lrlex.specs.declared.reading.pieces.Piece.{Piece}
use Rattle.lrlex.proofs.ItemLemmas.{Wins-cut}
use Rattle.lrlex.proofs.PeakLemmas.{tiles_are}
use Rattle.lrlex.proofs.ReachLemmas.{AreStates, one_state, sound_after, top_is_state}
use Rattle.lrlex.proofs.ResumeLemmas.{tile, tile_is, taken_old, next_boundary, first_boundary}
use Rattle.lrlex_rules.proofs.TilingLemmas.{one_winner}

module _ (d : Definition) (text : List ℕ) (found : List Item) (bounds : List Boundary) (h : IsLexed d text found bounds) (is : IsText text) (initial : is_state d 0 ≡ true) where
  -- the tile at boundary k
  abbrev pub tile_at : ℕ → Tile
  tile_at k = tile d text text 0 found bounds h is refl initial k

  pub first_place : 0 < length bounds → (boundary_at bounds 0).place ≡ 0
  first_place lt = ap (λ (b : ℕ × List ℕ). b.0) (first_boundary d text text 0 found bounds h is refl initial lt)

  pub next_place : (k : ℕ) → k + 1 < length bounds → (boundary_at bounds (k + 1)).place ≡ (boundary_at bounds k).place + (tile_at k).len
  next_place k lt = ap (λ (b : ℕ × List ℕ). b.0) (next_boundary d text text 0 found bounds h is refl initial k lt)

  stack_at : ℕ → List ℕ
  stack_at k = plain (boundary_at bounds k).entries

  -- each stack is of states, and isn't empty
  states_at : (k : ℕ) → k < length bounds → AreStates d (stack_at k) × (0 < length (stack_at k))
  unfolding stack_at
  states_at zero lt =
      let stack : plain (boundary_at bounds 0).entries ≡ 0 ∷ [] = ap (λ (b : ℕ × List ℕ). b.1) (first_boundary d text text 0 found bounds h is refl initial lt) in
      (subst (AreStates d) (sym stack) (one_state d 0 initial), omega (arith, ap length stack))
  states_at (suc n) lt =
      let one : n + 1 ≡ suc n = omega arith in
      let before = states_at n (omega arith) in
      let t = tile_at n in
      let stack : plain (boundary_at bounds (suc n)).entries ≡ stack_past d (plain (boundary_at bounds n).entries) t =
      ap (λ k. plain (boundary_at bounds k).entries) (sym one) ∙ ap (λ (b : ℕ × List ℕ). b.1) (next_boundary d text text 0 found bounds h is refl initial n (omega arith)) in
      let sound = sound_after d (plain (boundary_at bounds n).entries) (rule_at d t.rule).target initial before.0 before.1 (taken_old d text text 0 found bounds h is refl initial n (omega arith)).has_target in
      (subst (AreStates d) (sym stack) sound.states, subst (λ s. 0 < length s) (sym stack) sound.some)

  pub top_at : (k : ℕ) → k < length bounds → is_state d (top (plain (boundary_at bounds k).entries)) ≡ true
  unfolding stack_at
  top_at k lt = let s = states_at k lt in top_is_state d (plain (boundary_at bounds k).entries) s.0 s.1

  -- a winner at boundary k is the tile there, and some rule wins
  pub won_at : (k : ℕ) → k + 1 < length bounds → (rule len : ℕ) → Wins d (top (plain (boundary_at bounds k).entries)) (drop (boundary_at bounds k).place text) rule len →
      tile_at k ≡ record { rule = rule; len = len }
  won_at k lt rule len wins =
      one_winner d (drop (boundary_at bounds k).place text) (plain (boundary_at bounds k).entries) (tile_at k) (record { rule = rule; len = len })
      (taken_old d text text 0 found bounds h is refl initial k lt).wins wins

  pub wins_there : (k : ℕ) → k + 1 < length bounds → Wins d (top (plain (boundary_at bounds k).entries)) (drop (boundary_at bounds k).place text) (tile_at k).rule (tile_at k).len
  wins_there k lt = (taken_old d text text 0 found bounds h is refl initial k lt).wins

  -- each boundary stands between characters
  pub between_characters : (k : ℕ) → k < length bounds → IsCharBoundary text (boundary_at bounds k).place
  between_characters zero lt = subst (IsCharBoundary text) (sym (first_place lt)) (IsCharBoundary-start text is.utf8)
  between_characters (suc n) lt =
      let one : n + 1 ≡ suc n = omega arith in
      let m = boundary_at bounds n in
      let t = tile_at n in
      let here = between_characters n (omega arith) in
      subst (λ j. IsCharBoundary text (boundary_at bounds j).place) one
      (subst (IsCharBoundary text) (sym (next_place n (omega arith)))
      (IsCharBoundary-from_rest text m.place t.len here.0 (Wins-cut d (top (plain m.entries)) (drop m.place text) t.rule t.len (wins_there n (omega arith)))))

  -- these pieces are tiles in a row, the first of them at this boundary
  abbrev pub AreRow : ℕ → List Piece → Type 0
  AreRow first ps = (k : ℕ) (t : Tile) (p : Piece) → slice_get h.cut (first + k) ≡ Some t → slice_get ps k ≡ Some p → IsPiece d text (boundary_at bounds (first + k)).place t p

  -- and one more is the next
  pub row_and_next : (first : ℕ) (ps : List Piece) (p : Piece) → AreRow first ps →
      IsPiece d text (boundary_at bounds (first + length ps)).place (tile_at (first + length ps)) p → AreRow first (ps ++ p ∷ [])
  row_and_next first ps p are new k t q at here = elim (cases_lt k (length ps)) [
    | inl low ↦
        are k t q at
        (slice_get-get_or ps k q low ∙ ap Some (sym (get_or_append_left ps (p ∷ []) q k low))
        ∙ sym (slice_get-get_or (ps ++ p ∷ []) k q (slice_get_within (ps ++ p ∷ []) k q here)) ∙ here)
    | inr high ↦
        let within : k < length (ps ++ p ∷ []) = slice_get_within (ps ++ p ∷ []) k q here in
        let e : length ps ≡ k = omega (arith, length_push {X = Piece} ps p) in
        let own : p ≡ q = sym (get_or_push ps p q k e) ∙ get_or_from_slice_get (ps ++ p ∷ []) k q q here in
        let is_tile : tile_at (first + length ps) ≡ t = ap (λ j. tile_at (first + j)) e ∙ tile_is d text text 0 found bounds h is refl initial (first + k) t at in
        subst (λ x. IsPiece d text (boundary_at bounds (first + k)).place t x) own
        (subst (λ x. IsPiece d text (boundary_at bounds (first + k)).place x p) is_tile
        (subst (λ j. IsPiece d text (boundary_at bounds (first + j)).place (tile_at (first + length ps)) p) e new))
  ]

-- so many boundaries stand at the place or before it
pub record AreUpTo (bounds : List Boundary) (place n : ℕ) : Type 0 where
  pub within : n ≤ length bounds
  pub up_to : (j : ℕ) → j < n → (boundary_at bounds j).place ≤ place
  pub past : (j : ℕ) → n ≤ j → j < length bounds → place < (boundary_at bounds j).place

-- the first boundary is one of them
pub some_up_to : (d : Definition) (text : List ℕ) (found : List Item) (bounds : List Boundary) (h : IsLexed d text found bounds) → IsText text → is_state d 0 ≡ true →
    (place n : ℕ) → AreUpTo bounds place n → 0 < n
some_up_to d text found bounds h is initial place n are = elim (cases_lt 0 n) [
  | inl lt ↦ lt
  | inr ge ↦ let some : 0 < length bounds = omega (arith, tiles_are d text found bounds h) in absurd (omega (arith, are.past 0 ge some, first_place d text found bounds h is initial some))
]

-- the tiles from the last boundary up to `from` on and before the first one past `to - 1` are those with a byte in from..to
module _ (bounds : List Boundary) (from to first last : ℕ) (sorted : AreSorted bounds) (lt : from < to) (low : AreUpTo bounds from first) (high : AreUpTo bounds (to - 1) last) where
  pub low_and_high : first ≤ last
  low_and_high = elim (cases_lt last first) [
    | inl less ↦ absurd (omega (arith, low.within, low.up_to last less, high.past last (omega arith) (omega (arith, low.within))))
    | inr ge ↦ ge
  ]

  have_bytes : (k : ℕ) → k + 1 < length bounds → (first - 1 ≤ k) × (k < last) → HasByteIn from to (boundary_at bounds k).place (boundary_at bounds (k + 1)).place
  have_bytes k within row =
      let ends = low.past (k + 1) (omega (arith, row.0)) within in
      let begins = high.up_to k row.1 in
      let rises = sorted.rising k (k + 1) (omega arith) within in
      record {
        byte = max from (boundary_at bounds k).place;
        in_part = (omega arith, omega (arith, begins));
        in_tile = (omega arith, omega (arith, ends, rises));
      }

  in_row : (k : ℕ) → k + 1 < length bounds → HasByteIn from to (boundary_at bounds k).place (boundary_at bounds (k + 1)).place → (first - 1 ≤ k) × (k < last)
  in_row k within has = (
    elim (cases_lt k (first - 1)) [
      | inl less ↦ absurd (omega (arith, low.up_to (k + 1) (omega arith), has.in_part.0, has.in_tile.1))
      | inr ge ↦ ge
    ],
    elim (cases_lt k last) [
      | inl less ↦ less
      | inr ge ↦ absurd (omega (arith, high.past k ge (omega arith), has.in_part.1, has.in_tile.0))
    ],
  )

  pub exactly_these : (k : ℕ) → k + 1 < length bounds → HasByteIn from to (boundary_at bounds k).place (boundary_at bounds (k + 1)).place ↔ ((first - 1 ≤ k) × (k < last))
  exactly_these k within = (in_row k within, have_bytes k within)

-- what both say of the value
pub of_both : {X E : Type 0} (r : Result X E) (P Q R : X → Type 0) → ((x : X) → P x → Q x → R x) → IfOk r P → IfOk r Q → IfOk r R
of_both (Ok x) P Q R so p q = so x p q
of_both (Err e) P Q R so p q = p
