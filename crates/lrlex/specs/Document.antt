-- What an edit of a text that is lexed leaves of it.
use Rattle.std.specs.Prelude.{◌≡◌, ℕ, List, Result}
use Rattle.std.specs.String.{string_bytes}
use Rattle.lrlex_base.specs.Edits.{edited}
use Rattle.lrlex_base.specs.Places.{AreBreaksOf}
use Rattle.lrlex_base.specs.LexemeParts.{LexemeParts}
use Rattle.lrlex_base.specs.Spans.{Span}
use Rattle.lrlex.specs.Searches.{asks_by}
use Rattle.lrlex.specs.LexRun.{Run}
use Rattle.lrlex.specs.Lookahead.{LooksAhead}
use Rattle.lrlex.specs.Reach.{IsRun}
use Rattle.lrlex.specs.Relex.{AreCountsOf}
use Rattle.lrlex.specs.Changes.{HasChanged}
use Rattle.lrlex.specs.Progress.{HasSame}
use Rattle.lrlex_definition.specs.RuleTable.{definition_by}
use Rattle.lrlex.specs.Views.{items_by}
use Rattle.lrlex.specs.Work.{HasLinearRecut}
use Rattle.lrlex_boundaries.specs.Boundaries.{Boundary}
use Rattle.lrlex_positions.specs.Lines.{AreLinesOf}
use Rattle.lrlex_rules.specs.declared.errors.LRLexError.{LRLexError}
use Rattle.lrlex.specs.declared.definition.non_streaming.LRNonStreamingLexerDef.{LRNonStreamingLexerDef}
use Rattle.lrlex_definition.specs.declared.rule_table.RuleTable.{RuleTable}
use Rattle.lrlex.specs.declared.editing.document.LexedText.{LexedText}

-- what a text that was lexed has: its bytes, and the items and boundaries that were found
abbrev pub lexed_bytes : {X : Type 0} → LexedText X → List ℕ
lexed_bytes t = string_bytes t.text

abbrev pub lexed_items : {X : Type 0} → LexedText X → List (Result X LRLexError)
lexed_items t = t.lexed.items.items

abbrev pub lexed_boundaries : {X : Type 0} → LexedText X → List Boundary
lexed_boundaries t = t.lexed.boundaries

-- all that a document of it shows, by the definition that it was lexed by
abbrev pub shown_by : {L X S E : Type 0} → LRNonStreamingLexerDef L X S E → LexedText X → Run (LRNonStreamingLexerDef L X S E) X
shown_by d t = record {
  definition = d;
  text = lexed_bytes t;
  items = lexed_items t;
  boundaries = lexed_boundaries t;
  ahead = t.lexed.ahead.items;
  asked = t.lexed.asked;
  recut = t.lexed.recut;
  looked = t.lexed.looked;
  changed = t.lexed.changed;
}

-- the newlines and the lines are those of the text, and what was found is what it gives
abbrev pub IsLexedBy : {S X : Type 0} → (S → ℕ) → (X → LexemeParts S) → RuleTable S → LexedText X → Type 0
IsLexedBy number seen d t =
    AreBreaksOf (string_bytes t.text) t.newlines
    × ∥ LooksAhead (definition_by number d) (string_bytes t.text) t.lexed.boundaries t.lexed.ahead.items ∥₁
    × ∥ IsRun (definition_by number d) (string_bytes t.text) (items_by number seen t.lexed.items.items) t.lexed.boundaries ∥₁
    × AreLinesOf (string_bytes t.text) t.lines

-- the bytes of the span gave way to these, what was found is what the text gives now, and this is what that took
pub record WasEdited {S X : Type 0} (number : S → ℕ) (seen : X → LexemeParts S) (d : RuleTable S) (removed : Span) (put : List ℕ) (old new : LexedText X) : Type 0 where
  pub text : string_bytes new.text ≡ edited (string_bytes old.text) removed put
  pub breaks : AreBreaksOf (string_bytes new.text) new.newlines
  pub lines : AreLinesOf (string_bytes new.text) new.lines
  pub looks : LooksAhead (definition_by number d) (string_bytes new.text) new.lexed.boundaries new.lexed.ahead.items
  pub run : IsRun (definition_by number d) (string_bytes new.text) (items_by number seen new.lexed.items.items) new.lexed.boundaries
  pub counts : AreCountsOf (definition_by number d) (asks_by d (string_bytes new.text)) old.lexed.boundaries old.lexed.ahead.items removed put (string_bytes new.text) new.lexed.boundaries new.lexed.asked new.lexed.recut
  pub recut : HasLinearRecut d (string_bytes new.text) new.lexed.boundaries new.lexed.changed.pieces new.lexed.looked

-- what that changed
abbrev pub HasChangedText : {S X : Type 0} → (S → ℕ) → (X → LexemeParts S) → RuleTable S → Span → List ℕ → (old new : LexedText X) → Type 0
HasChangedText number seen d removed put old new =
    HasChanged (definition_by number d) (string_bytes old.text) (string_bytes new.text) removed put (items_by number seen old.lexed.items.items) (items_by number seen new.lexed.items.items)
    old.lexed.boundaries new.lexed.boundaries new.lexed.changed new.lexed.recut

-- all is what it was
pub record WasLeft {X : Type 0} (old new : LexedText X) : Type 0 where
  pub text : string_bytes new.text ≡ string_bytes old.text
  pub newlines : new.newlines ≡ old.newlines
  pub lines : new.lines ≡ old.lines
  pub found : HasSame old.lexed new.lexed
