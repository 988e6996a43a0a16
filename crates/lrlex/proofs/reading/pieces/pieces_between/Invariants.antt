use Rattle.std.proofs.Common.{◌≡◌, ℕ, ◌+◌, List, Some, length, slice_get, IsCharBoundary}
use Rattle.lrlex_definition.specs.RuleTable.{AreOf}
use Rattle.lrlex.specs.Searcher.{IsSearcherOf}
use Rattle.lrlex_boundaries.specs.Boundaries.{boundary_at}
use Rattle.lrlex.specs.Pieces.{IsPiece}
use Rattle.lrlex.specs.Reach.{IsLexed}
use Rattle.lrlex_rules.specs.Tiling.{Item, Tile}
use Rattle.lrlex_definition.specs.RuleTable.{definition_by}
use Rattle.lrlex.specs.declared.reading.pieces.Piece.{Piece}
use Rattle.lrlex.proofs.reading.pieces.pieces_between.Given as goal

abbrev pub invariant-tiles : goal.invariant-tiles
invariant-tiles g l = record {
  searcher : IsSearcherOf l.table l.text l.searcher;
  rules : AreOf g.S.Numbered.number l.table l.rules.state l.rules;
  boundary : IsCharBoundary l.text l.place;
  many : l.first + length l.pieces.items ≡ l.index;
  at : (found : List Item) → IsLexed (definition_by g.S.Numbered.number l.table) l.text found l.boundaries → (boundary_at l.boundaries l.index).place ≡ l.place;
  row : (found : List Item) (h : IsLexed (definition_by g.S.Numbered.number l.table) l.text found l.boundaries) (k : ℕ) (t : Tile) (p : Piece)
      → slice_get h.cut (l.first + k) ≡ Some t → slice_get l.pieces.items k ≡ Some p → IsPiece (definition_by g.S.Numbered.number l.table) l.text (boundary_at l.boundaries (l.first + k)).place t p;
}
