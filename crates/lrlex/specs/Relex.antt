-- What lexing again after an edit takes.
use Rattle.std.specs.Prelude.{◌≡◌, ℕ, ◌+◌, ◌-◌, ◌*◌, ◌<◌, ◌≤◌, true, List, length, take}
use Rattle.lrlex_base.specs.Spans.{Span}
use Rattle.lrlex_rules.specs.Definition.{Definition}
use Rattle.lrlex_rules.specs.Active.{is_state}
use Rattle.lrlex.specs.Changes.{HasChanged}
use Rattle.lrlex.specs.Searches.{asks, WasRecut}
use Rattle.lrlex.specs.Lookahead.{IsSafe}
use Rattle.lrlex_boundaries.specs.Moves.{Meets}
use Rattle.lrlex_boundaries.specs.Boundaries.{Boundary}
use Rattle.lrlex.specs.LexRun.{Run}
use Rattle.lrlex.specs.Reach.{searches}
use Rattle.lrlex.specs.Views.{definition_of, items_by}
use Rattle.lrlex_base.specs.LexemeParts.{LexemeParts}
use Rattle.lrlex.specs.declared.definition.non_streaming.LRNonStreamingLexerDef.{LRNonStreamingLexerDef}

-- The counts of lexing again, by this definition and these searches at boundaries, where the old run had these boundaries, with
-- these numbers of bytes that the tiles before each looked past it, and the bytes of the span gave way to so many others: no more
-- searches than a run of its own, none past the boundary at which it meets the old run, and no tile anew before a safe boundary
-- or past the meeting.
pub record AreCountsOf (d : Definition) (searched : List Boundary → ℕ) (old : List Boundary) (ahead : List ℕ) (removed : Span) (put text : List ℕ) (new : List Boundary) (many recut : ℕ) : Type 0 where
  pub asked : many ≤ searches d text new
  pub few : many ≤ length new * length d.rules
  pub met : (k : ℕ) → Meets old new removed.start removed.end (length put) k → many ≤ searches d text (take k new)
  pub lexed : (k : ℕ) → k < length old → IsSafe old ahead removed.start k
      → (recut + k ≤ length new - 1) × ((j : ℕ) → Meets old new removed.start removed.end (length put) j → recut + k ≤ j)
  pub exact : is_state d 0 ≡ true → WasRecut searched old new ahead removed.start removed.end (length put) many recut

-- the counts of a run of the text after an edit
abbrev pub WasRelexed : {L X S E : Type 0} → (S → ℕ) → List Boundary → List ℕ → Span → List ℕ → Run (LRNonStreamingLexerDef L X S E) X → Type 0
WasRelexed number old ahead removed put r = AreCountsOf (definition_of number r.definition) (asks r.definition r.text) old ahead removed put r.text r.boundaries r.asked r.recut

-- what an edit changed, of a document or a run that was this before
abbrev pub WasChanged : {L X S E : Type 0} → (S → ℕ) → (X → LexemeParts S) → Span → List ℕ → (old new : Run (LRNonStreamingLexerDef L X S E) X) → Type 0
WasChanged number seen removed put old new =
    HasChanged (definition_of number new.definition) old.text new.text removed put (items_by number seen old.items) (items_by number seen new.items) old.boundaries new.boundaries new.changed new.recut
