-- What stays of a run when its text changes from a place on.
use Rattle.std.specs.Prelude.{◌≡◌, ℕ, ◌+◌, ◌-◌, ◌<◌, ◌≤◌, min, List, All, [], ◌∷◌, length, map, drop, take, slice_index, if◌then◌else◌, IsCharBoundary}
use Rattle.lrlex_rules.specs.Definition.{Definition}
use Rattle.lrlex_table.specs.Reach.{IsText, BeginsAlike}
use Rattle.lrlex_rules.specs.Tiling.{Item, Tile, Wins, top}
use Rattle.lrlex_boundaries.specs.Entries.{plain}
use Rattle.lrlex_boundaries.specs.Boundaries.{Boundary, place_and_stack, boundary_at}
use Rattle.lrlex.specs.Moves.{begins_before}
use Rattle.lrlex.specs.Reach.{Reached}

-- The text's first `reach` bytes decide what wins in the state: in each text with the same first `reach` bytes the same
-- rule wins with as many bytes.
pub record IsDecided (d : Definition) (q : ℕ) (text : List ℕ) (reach : ℕ) : Type 0 where
  pub wins : (other : List ℕ) → IsText other → BeginsAlike reach text other → (k n : ℕ) → Wins d q text k n → Wins d q other k n

-- what wins at the boundary is decided by the bytes that stand before the place `far`
abbrev pub IsDecidedAt : Definition → List ℕ → ℕ → Boundary → Type 0
IsDecidedAt d text far m = IsDecided d (top (plain m.entries)) (drop m.place text) (far - m.place)

-- so it is at each of the first k boundaries
abbrev pub AreDecided : Definition → List ℕ → List Boundary → ℕ → ℕ → Type 0
AreDecided d text bounds k far = All (IsDecidedAt d text far) (take k bounds)

-- the items up to the first one that doesn't begin before the place
abbrev pub items_before : ℕ → List Item → List Item
items_before p [] = []
items_before p (i ∷ rest) = if begins_before p i then i ∷ items_before p rest else []

-- Lexing goes on from the old boundary k: a run of the new text comes to it, by the old boundaries and items before it,
-- and without a search.
pub record GoesOn (d : Definition) (new : List ℕ) (found : List Item) (bounds : List Boundary) (k : ℕ) : Type 0 where
  pub reached : Reached d new (boundary_at bounds k).place (boundary_at bounds k).entries (items_before (boundary_at bounds k).place found) (take (k + 1) bounds) 0
  pub boundary : IsCharBoundary new (boundary_at bounds k).place

-- Two runs have the first k tiles in common, the boundaries round these, and the items before boundary k.
pub record BeginAlike (cut other_cut : List Tile) (found other_found : List Item) (bounds other_bounds : List Boundary) (k : ℕ) : Type 0 where
  pub tiles : take k other_cut ≡ take k cut
  pub boundaries : map place_and_stack (take (k + 1) other_bounds) ≡ map place_and_stack (take (k + 1) bounds)
  pub items : items_before (boundary_at bounds k).place other_found ≡ items_before (boundary_at bounds k).place found

-- For each boundary, how many bytes past its place the tiles before it looked, so that bytes up to there decide them. 255
-- says nothing.
pub record LooksAhead (d : Definition) (text : List ℕ) (bounds : List Boundary) (ahead : List ℕ) : Type 0 where
  pub len : length ahead ≡ length bounds
  pub first : slice_index ahead 0 ≡ 0
  pub decided : (k : ℕ) → k < length bounds → slice_index ahead k < 255 → AreDecided d text bounds k ((boundary_at bounds k).place + slice_index ahead k)

-- as far as these numbers tell, no tile before the boundary looked at bytes from `low` on
pub record IsSafe (bounds : List Boundary) (ahead : List ℕ) (low k : ℕ) : Type 0 where
  pub known : slice_index ahead k < 255
  pub before : (boundary_at bounds k).place + slice_index ahead k ≤ low

-- the number that stands for so many bytes
abbrev pub capped : ℕ → ℕ
capped n = min n 255

-- Of a run that stands at its last boundary, at this place: the numbers so far, and that its tiles looked at most `lookahead`
-- bytes past the place.
pub record HasLooked (d : Definition) (text : List ℕ) (bounds : List Boundary) (ahead : List ℕ) (place lookahead : ℕ) : Type 0 where
  pub looks : LooksAhead d text bounds ahead
  pub all : AreDecided d text bounds (length bounds - 1) (place + lookahead)

-- The number is enough for boundary k where the tiles before boundary j looked at most `lookahead` bytes past the place of j: it
-- is as great as the old one, and goes as far.
abbrev pub IsEnough : List Boundary → List ℕ → ℕ → ℕ → ℕ → ℕ → Type 0
IsEnough bounds ahead j lookahead k n =
    n < 255 → (slice_index ahead k ≤ n) × ((boundary_at bounds j).place + lookahead ≤ (boundary_at bounds k).place + n)

-- `all` has the numbers of `front`, and then those of the boundaries behind j and before `end`, raised where that is needed
pub record AreRaised (bounds : List Boundary) (ahead : List ℕ) (j lookahead end : ℕ) (front all : List ℕ) : Type 0 where
  pub kept : take (length front) all ≡ front
  pub len : length all + (j + 1) ≡ length front + end
  pub each : (k : ℕ) → j < k → k < end → IsEnough bounds ahead j lookahead k (slice_index all ((length front + k) - (j + 1)))
