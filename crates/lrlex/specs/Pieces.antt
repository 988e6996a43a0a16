-- The whole text as it was cut, with what each piece is called.
use Rattle.std.specs.Prelude.{◌≡◌, ◌↔◌, ℕ, ◌+◌, ◌-◌, ◌<◌, ◌≤◌, false, List, [], ◌∷◌, ◌++◌, length, map, take, option_map, Some, slice_get, slice_range}
use Rattle.std.specs.List.{concat}
use Rattle.lrlex_base.specs.Spans.{span, as_span, span_start, span_end}
use Rattle.lrlex_rules.specs.Definition.{Definition}
use Rattle.lrlex_rules.specs.Active.{is_state, rule_at, lexeme_id}
use Rattle.lrlex_boundaries.specs.Boundaries.{Boundary, boundary_at}
use Rattle.lrlex.specs.LexRun.{end_of}
use Rattle.lrlex.specs.Reach.{IsLexed}
use Rattle.lrlex_rules.specs.Tiling.{Item, Tile, end_items, lexeme_of}
use Rattle.lrlex.specs.declared.reading.pieces.Piece.{Piece}

-- the piece is this tile, which begins at the place
pub record IsPiece (d : Definition) (text : List ℕ) (place : ℕ) (t : Tile) (p : Piece) : Type 0 where
  pub rule : p.rule ≡ t.rule
  pub name : option_map (λ n. n.now) p.name ≡ (rule_at d t.rule).name
  pub span : as_span p.span ≡ span place (place + t.len)
  pub text_is : p.text.now ≡ slice_range text place (place + t.len)

-- these are the tiles, one by one: each begins at its boundary
pub record AreTiles (d : Definition) (text : List ℕ) (bounds : List Boundary) (cut : List Tile) (ps : List Piece) : Type 0 where
  pub many : length ps ≡ length cut
  pub each : (k : ℕ) (t : Tile) (p : Piece) → slice_get cut k ≡ Some t → slice_get ps k ≡ Some p → IsPiece d text (boundary_at bounds k).place t p

-- the pieces of a run: the tiles of its one tiling, and none without a state 0
pub record ArePieces (d : Definition) (text : List ℕ) (bounds : List Boundary) (ps : List Piece) : Type 0 where
  pub tiles : (found : List Item) (h : IsLexed d text found bounds) → AreTiles d text bounds h.cut ps
  pub stateless : is_state d 0 ≡ false → ps ≡ []

-- these are tiles of the run in a row, the first of them at this boundary
pub record AreTilesOfRun (d : Definition) (text : List ℕ) (bounds : List Boundary) (first : ℕ) (ps : List Piece) : Type 0 where
  pub within : first + length ps ≤ length bounds - 1
  pub each : (found : List Item) (h : IsLexed d text found bounds) (k : ℕ) (t : Tile) (p : Piece) →
      slice_get h.cut (first + k) ≡ Some t → slice_get ps k ≡ Some p → IsPiece d text (boundary_at bounds (first + k)).place t p

-- some byte of from..to is one of begin..end
pub record HasByteIn (from to begin end : ℕ) : Type 0 where
  pub byte : ℕ
  pub in_part : (from ≤ byte) × (byte < to)
  pub in_tile : (begin ≤ byte) × (byte < end)

-- the pieces of a part of a run: tiles in a row, and of all tiles exactly these have a byte in from..to
pub record ArePiecesIn (d : Definition) (text : List ℕ) (bounds : List Boundary) (from to : ℕ) (ps : List Piece) : Type 0 where
  pub first : ℕ
  pub tiles : AreTilesOfRun d text bounds first ps
  pub exactly : (k : ℕ) → k + 1 < length bounds →
      HasByteIn from to (boundary_at bounds k).place (boundary_at bounds (k + 1)).place ↔ ((first ≤ k) × (k < first + length ps))

-- the bytes of pieces, one behind the other
abbrev pub joined : List Piece → List ℕ
joined ps = concat (map (λ (p : Piece). p.text.now) ps)

-- a lexeme for each piece of a named rule that has an id
abbrev pub lexemes_of : Definition → List Piece → List Item
lexemes_of d [] = []
lexemes_of d (p ∷ ps) = lexeme_of (lexeme_id (rule_at d p.rule)) (span_start p.span) (span_end p.span - span_start p.span) ++ lexemes_of d ps

-- Joined, the pieces of a run are its text up to the place where lexing ended, and its lexemes are theirs. Behind these it has
-- only what that end gives: nothing at the text's end, else its error, before which a rule whose target is no state gives its lexeme.
pub record ArePiecesOfRun (d : Definition) (text : List ℕ) (found : List Item) (bounds : List Boundary) (h : IsLexed d text found bounds) (ps : List Piece) : Type 0 where
  pub text_is : joined ps ≡ take (end_of bounds) text
  pub items_are : found ≡ lexemes_of d ps ++ end_items d (end_of bounds) h.end
