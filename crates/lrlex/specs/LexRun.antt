-- What a run has found, as plain data.
use Rattle.std.specs.Prelude.{ℕ, ◌-◌, List, [], ◌∷◌, length, Option, None, Some, Result}
use Rattle.lrlex_base.specs.LexemeParts.{LexemeParts}
use Rattle.lrlex_boundaries.specs.Boundaries.{Boundary, boundary_at, last_entries}
use Rattle.lrlex_boundaries.specs.Entries.{plain}
use Rattle.lrlex.specs.ItemLaws.{HaveLaws}
use Rattle.lrlex.specs.Reach.{IsRun}
use Rattle.lrlex_rules.specs.Tiling.{top}
use Rattle.lrlex.specs.Views.{definition_of, items_by}
use Rattle.lrlex.specs.declared.editing.changes.Changed.{Changed}
use Rattle.lrlex_rules.specs.declared.errors.LRLexError.{LRLexError}
use Rattle.lrlex.specs.declared.definition.non_streaming.LRNonStreamingLexerDef.{LRNonStreamingLexerDef}

-- The definition that a run went by, its text, what it gave, its boundaries, for each of them how many bytes past its place
-- the tiles before it looked (255 stands for more), what the call that made it took: searches, tiles cut anew, and cells of tables that were looked at, if
-- that is known; and what that call changed in the items and pieces.
pub record Run (D X : Type 0) : Type 0 where
  pub definition : D
  pub text : List ℕ
  pub items : List (Result X LRLexError)
  pub boundaries : List Boundary
  pub ahead : List ℕ
  pub asked : ℕ
  pub recut : ℕ
  pub looked : Option ℕ
  pub changed : Changed

-- it is the run of this definition on this text
abbrev pub IsRunOf : {L X S E : Type 0} → (S → ℕ) → (X → LexemeParts S) → LRNonStreamingLexerDef L X S E → List ℕ → Run (LRNonStreamingLexerDef L X S E) X → Type 0
IsRunOf number seen d text r = IsRun (definition_of number d) text (items_by number seen r.items) r.boundaries

-- and so its items have the laws of the items of each run
abbrev pub HasItemLaws : {L X S E : Type 0} → (S → ℕ) → (X → LexemeParts S) → LRNonStreamingLexerDef L X S E → List ℕ → Run (LRNonStreamingLexerDef L X S E) X → Type 0
HasItemLaws number seen d text r = HaveLaws (definition_of number d) text (items_by number seen r.items) r.boundaries

-- the place up to which a text with these boundaries was lexed: that of the last one, and 0 without one
abbrev pub end_of : List Boundary → ℕ
end_of bounds = (boundary_at bounds (length bounds - 1)).place

-- the start state there: the top of the stack at the last boundary
abbrev pub end_state_of : List Boundary → Option ℕ
end_state_of [] = None
end_state_of (m ∷ ms) = Some (top (plain (last_entries (m ∷ ms))))
