-- How far a run has come, and what it answers in the end.
use Rattle.std.specs.Prelude.{◌≡◌, ℕ, ◌+◌, ◌<◌, ◌≤◌, true, false, None, List, All, [], ◌∷◌, ◌++◌, map, length, drop}
use Rattle.std.specs.List.{sum_by}
use Rattle.lrlex_rules.specs.Definition.{Definition}
use Rattle.lrlex_rules.specs.Active.{is_state}
use Rattle.lrlex_rules.specs.Tiling.{Item, Error, End, IsTiling, items, boundaries, asked_at}
use Rattle.lrlex_boundaries.specs.Entries.{plain, AreEntries}
use Rattle.lrlex_boundaries.specs.Boundaries.{Boundary, place_and_stack}
use Rattle.lrlex_rules.specs.Tiling.{Tile}

-- From the beginning, the tiles in `cut` lead to this place and stack, and give these items and boundaries.
pub record Reached (d : Definition) (text : List ℕ) (place : ℕ) (stack : List (ℕ × ℕ)) (found : List Item) (bounds : List Boundary) (asked : ℕ) : Type 0 where
  pub cut : List Tile
  pub before : List Boundary
  pub goes_on : (ts : List Tile) (e : End) → IsTiling d (drop place text) (plain stack) ts e → IsTiling d text (0 ∷ []) (cut ++ ts) e
  pub gives : (ts : List Tile) (e : End) → items d 0 (cut ++ ts) e ≡ found ++ items d place ts e
  pub enters : (ts : List Tile) → boundaries d 0 (0 ∷ []) (cut ++ ts) ≡ map place_and_stack before ++ boundaries d place (plain stack) ts
  pub kept : bounds ≡ before ++ record { place = place; entries = stack } ∷ []
  pub entries : All (λ m. AreEntries m.entries) bounds
  pub asks : asked ≤ sum_by (asked_at d (length text)) (map place_and_stack before)
  pub few : length before ≤ place
  pub deep : length (plain stack) ≤ length before + 1
  pub some : 0 < length (plain stack)
  pub initial : is_state d 0 ≡ true
  pub states : All (λ q. is_state d q ≡ true) (plain stack)

-- the items and boundaries are those of the tiling from state 0, and there is no other
pub record IsLexed (d : Definition) (text : List ℕ) (found : List Item) (bounds : List Boundary) : Type 0 where
  pub cut : List Tile
  pub end : End
  pub tiling : IsTiling d text (0 ∷ []) cut end
  pub only : (ts : List Tile) (e : End) → IsTiling d text (0 ∷ []) ts e → (ts ≡ cut) × (e ≡ end)
  pub items_are : found ≡ items d 0 cut end
  pub boundaries_are : map place_and_stack bounds ≡ boundaries d 0 (0 ∷ []) cut
  pub entries : All (λ m. AreEntries m.entries) bounds

-- without a state 0 there is one error and no boundary
pub record IsStateless (found : List Item) (bounds : List Boundary) : Type 0 where
  pub items_are : found ≡ Error 0 0 None ∷ []
  pub boundaries_are : bounds ≡ []

-- what a run answers
pub record IsRun (d : Definition) (text : List ℕ) (found : List Item) (bounds : List Boundary) : Type 0 where
  pub lexed : is_state d 0 ≡ true → IsLexed d text found bounds
  pub stateless : is_state d 0 ≡ false → IsStateless found bounds

-- one search for each active rule at each boundary before the text's end
abbrev pub searches : Definition → List ℕ → List Boundary → ℕ
searches d text bounds = sum_by (asked_at d (length text)) (map place_and_stack bounds)
