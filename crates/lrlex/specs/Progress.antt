-- How each step of a run leaves what the run has found so far.
use Rattle.std.specs.Prelude.{◌≡◌, ℕ, ◌+◌, ◌-◌, ◌^◌, ◌<◌, ◌≤◌, Bool, true, false, max, List, Option, Some, None, Result, [], ◌∷◌, ◌++◌, length, map, drop, take, slice_index, IsCharBoundary}
use Rattle.lrlex_base.specs.LexemeParts.{LexemeParts}
use Rattle.lrlex_base.specs.Spans.{Fits, as_span}
use Rattle.lrlex_base.specs.Edits.{edited}
use Rattle.lrlex_base.specs.declared.spans.Span.{Span}
use Rattle.lrlex_rules.specs.declared.states.StartStateOperation.{StartStateOperation}
use Rattle.lrlex_rules.specs.Definition.{Definition}
use Rattle.lrlex.specs.Searches.{IsLastSafe, asks_by}
use Rattle.lrlex_definition.specs.RuleTable.{untabled_count}
use Rattle.lrlex.specs.Lookahead.{AreRaised, HasLooked, LooksAhead, capped, items_before}
use Rattle.lrlex_boundaries.specs.Moves.{moved_boundary}
use Rattle.lrlex.specs.Moves.{items_from}
use Rattle.lrlex_boundaries.specs.Boundaries.{Boundary, boundary_at}
use Rattle.lrlex.specs.Reach.{IsLexed, IsRun, Reached, searches}
use Rattle.lrlex.specs.Changes.{all_new}
use Rattle.lrlex.specs.Relex.{AreCountsOf}
use Rattle.lrlex_boundaries.specs.Entries.{AreEntries, plain}
use Rattle.lrlex.specs.Work.{IsLinearIn}
use Rattle.lrlex_rules.specs.Tiling.{Item, rebased, stack_after, top}
use Rattle.lrlex_definition.specs.RuleTable.{definition_by}
use Rattle.lrlex.specs.Views.{items_by}
use Rattle.lrlex_rules.specs.declared.errors.LRLexError.{LRLexError}
use Rattle.lrlex_definition.specs.declared.rule_table.RuleTable.{RuleTable}
use Rattle.lrlex.specs.declared.lexing.step.Progress.{Progress}
use Rattle.lrlex.specs.declared.editing.relex.Recut.{Recut}
use Rattle.lrlex.specs.declared.lexing.run.Lexed.{Lexed}

-- The next boundary was entered: it stands at this place, the rule's target moved the stack, the tiles looked so far
-- past the place, and nothing else was found.
pub record HasEntered {X : Type 0} (old new : Progress X) (target : Option (ℕ × StartStateOperation)) (at far : ℕ) : Type 0 where
  pub place : new.place ≡ at
  pub entries : AreEntries new.stack.items
  pub moved : plain new.stack.items ≡ stack_after (plain old.stack.items) target
  pub items : new.items.items ≡ old.items.items
  pub asked : new.asked ≡ old.asked
  pub lookahead : new.lookahead ≡ far
  pub ahead : new.ahead.items ≡ old.ahead.items ++ capped far ∷ []
  pub kept : new.boundaries ≡ old.boundaries ++ record { place = at; entries = new.stack.items } ∷ []

-- what was found stands at boundary `index` of an old run, and is that boundary with its number alone
pub record StandsAt {X : Type 0} (old : List Boundary) (numbers : List ℕ) (index : ℕ) (p : Progress X) : Type 0 where
  pub place : p.place ≡ (boundary_at old index).place
  pub stack : p.stack.items ≡ (boundary_at old index).entries
  pub items : p.items.items ≡ []
  pub boundaries : p.boundaries ≡ boundary_at old index ∷ []
  pub asked : p.asked ≡ 0
  pub ahead : p.ahead.items ≡ slice_index numbers index ∷ []
  pub lookahead : p.lookahead ≡ slice_index numbers index

-- what was found, with so many tiles cut anew and so many cells looked at
pub record HasFinished {X : Type 0} (p : Progress X) (cut : ℕ) (cells : Option ℕ) (r : Lexed X) : Type 0 where
  pub items : r.items.items ≡ p.items.items
  pub boundaries : r.boundaries ≡ p.boundaries
  pub asked : r.asked ≡ p.asked
  pub ahead : r.ahead.items ≡ p.ahead.items
  pub recut : r.recut ≡ cut
  pub looked : r.looked ≡ cells
  pub changed : r.changed ≡ all_new (length p.items.items) cut

-- the same was found, at the same cost, and by the same change
pub record HasSame {X : Type 0} (old new : Lexed X) : Type 0 where
  pub items : new.items.items ≡ old.items.items
  pub boundaries : new.boundaries ≡ old.boundaries
  pub ahead : new.ahead.items ≡ old.ahead.items
  pub asked : new.asked ≡ old.asked
  pub recut : new.recut ≡ old.recut
  pub looked : new.looked ≡ old.looked
  pub changed : new.changed ≡ old.changed

-- All old boundaries before the cursor stand before the place, as it was before the edit; where a meeting was found, the one at
-- the cursor stands there, with the same stack.
pub record TellsMeeting (old : List Boundary) (removed : Span) (put : List ℕ) (at : ℕ) (entries : List (ℕ × ℕ)) (next : ℕ) (found : Bool) : Type 0 where
  pub cursor : next ≤ length old
  pub behind : (j : ℕ) → j < next
      → (boundary_at old j).place + (removed.start + length put) < max at (removed.start + length put) + removed.end
  pub within : found ≡ true → next < length old
  pub past : found ≡ true → removed.start + length put ≤ at
  pub place : found ≡ true → (boundary_at old next).place + (removed.start + length put) ≡ at + removed.end
  pub stack : found ≡ true → (boundary_at old next).entries ≡ entries

-- What stands in front of what a run has found, where it began within a text: items, boundaries and their numbers.
pub record Front : Type 0 where
  pub items : List Item
  pub boundaries : List Boundary
  pub ahead : List ℕ

-- nothing, where it began with the text
abbrev pub no_front : Front
no_front = record { items = []; boundaries = []; ahead = [] }

-- what an old run has in front of its boundary k
abbrev pub front_of : List Item → List Boundary → List ℕ → ℕ → Front
front_of found bounds numbers k = record { items = items_before (boundary_at bounds k).place found; boundaries = take k bounds; ahead = take k numbers }

-- A run stands at a place, between characters: tiles led to it, with these items and boundaries, and they looked so far.
pub record IsUnderWay {S X : Type 0} (d : Definition) (number : S → ℕ) (seen : X → LexemeParts S) (text : List ℕ) (f : Front) (p : Progress X) : Type 0 where
  pub boundary : IsCharBoundary text p.place
  pub some : 0 < length p.boundaries
  pub reached : Reached d text p.place p.stack.items (f.items ++ items_by number seen p.items.items) (f.boundaries ++ p.boundaries) p.asked
  pub looked : HasLooked d text (f.boundaries ++ p.boundaries) (f.ahead ++ p.ahead.items) p.place p.lookahead

-- it took one more tile, and stands behind it
pub record HasAdvanced {S X : Type 0} (d : Definition) (number : S → ℕ) (seen : X → LexemeParts S) (text : List ℕ) (f : Front) (old new : Progress X) : Type 0 where
  pub under_way : IsUnderWay d number seen text f new
  pub grows : old.place < new.place
  pub more : (m : Boundary) × (new.boundaries ≡ old.boundaries ++ m ∷ [])

-- it found no more tile, and all that it found is what the text gives
pub record HasEnded {S X : Type 0} (d : Definition) (number : S → ℕ) (seen : X → LexemeParts S) (text : List ℕ) (f : Front) (old new : Progress X) : Type 0 where
  pub lexed : IsLexed d text (f.items ++ items_by number seen new.items.items) (f.boundaries ++ new.boundaries)
  pub same : new.boundaries ≡ old.boundaries
  pub ahead : new.ahead.items ≡ old.ahead.items

-- the searches of one step: at most as many as the boundaries so far allow, and exactly those of the state on top
pub record HasSearched {S X : Type 0} (number : S → ℕ) (d : RuleTable S) (text : List ℕ) (f : Front) (old new : Progress X) : Type 0 where
  pub few : new.asked ≤ searches (definition_by number d) text (f.boundaries ++ old.boundaries)
  pub exact : new.asked ≡ old.asked + untabled_count d (top (plain old.stack.items))

-- One step of a run, after which lexing goes on or not: it took one more tile or found no more, and made its searches.
pub record HasTakenStep {S X : Type 0} (number : S → ℕ) (seen : X → LexemeParts S) (d : RuleTable S) (text : List ℕ) (old new : Progress X) (on : Bool) : Type 0 where
  pub goes_on : on ≡ true → (f : Front) → IsUnderWay (definition_by number d) number seen text f old → HasAdvanced (definition_by number d) number seen text f old new
  pub ends : on ≡ false → (f : Front) → IsUnderWay (definition_by number d) number seen text f old → HasEnded (definition_by number d) number seen text f old new
  pub asked : (f : Front) → IsUnderWay (definition_by number d) number seen text f old → HasSearched number d text f old new

-- The lists are those of a run of some text, and this edit makes the new text of that one.
pub record IsEditOf {S X : Type 0} (number : S → ℕ) (seen : X → LexemeParts S) (d : RuleTable S) (found : List (Result X LRLexError)) (bounds : List Boundary)
    (numbers : List ℕ) (removed : Span) (put new : List ℕ) : Type 0 where
  pub text : List ℕ
  pub small : length text < 2 ^ 64
  pub looks : ∥ LooksAhead (definition_by number d) text bounds numbers ∥₁
  pub run : ∥ IsRun (definition_by number d) text (items_by number seen found) bounds ∥₁
  pub fits : Fits text removed
  pub gives : new ≡ edited text (as_span removed) put

-- A run of the new text that has these items and boundaries in front of it meets old boundary j: it stands past the edit, and
-- that one stood there before it, with the same stack.
pub record HasMet {S X : Type 0} (d : Definition) (number : S → ℕ) (seen : X → LexemeParts S) (bounds : List Boundary) (removed : Span) (put new : List ℕ) (f : Front) (p : Progress X) (j : ℕ) : Type 0 where
  pub under_way : IsUnderWay d number seen new f p
  pub within : j < length bounds
  pub past : removed.start + length put ≤ p.place
  pub place : (boundary_at bounds j).place + (removed.start + length put) ≡ p.place + removed.end
  pub stack : (boundary_at bounds j).entries ≡ p.stack.items

-- Tiles were cut anew from the last boundary of the old run that is safe, up to the first that meets it, or to the end of
-- what the text gives.
pub record HasRecut {S X : Type 0} (number : S → ℕ) (seen : X → LexemeParts S) (d : RuleTable S) (found : List (Result X LRLexError)) (bounds : List Boundary)
    (numbers : List ℕ) (removed : Span) (put new : List ℕ) (a : Recut X) : Type 0 where
  pub from : IsLastSafe bounds numbers removed.start a.index
  pub first : a.first ≤ length found
  pub before : items_by number seen (take a.first found) ≡ items_before (boundary_at bounds a.index).place (items_by number seen found)
  pub start : boundary_at a.progress.boundaries 0 ≡ boundary_at bounds a.index
  pub some : 0 < length a.progress.boundaries
  pub met : (j : ℕ) → a.met ≡ Some j
      → HasMet (definition_by number d) number seen bounds removed put new (front_of (items_by number seen found) bounds numbers a.index) a.progress j
  pub lexed : a.met ≡ None
      → IsLexed (definition_by number d) new (items_by number seen (take a.first found) ++ items_by number seen a.progress.items.items) (take a.index bounds ++ a.progress.boundaries)
  pub looked : a.met ≡ None
      → LooksAhead (definition_by number d) new (take a.index bounds ++ a.progress.boundaries) (take a.index numbers ++ a.progress.ahead.items)
  pub counts : (tail all : List Boundary) → (a.met ≡ None → tail ≡ []) → all ≡ (take a.index bounds ++ a.progress.boundaries) ++ tail
      → AreCountsOf (definition_by number d) (asks_by d new) bounds numbers (as_span removed) put new all a.progress.asked (length a.progress.boundaries - 1)
  pub near : (j : ℕ) → a.met ≡ Some j → IsLinearIn d new (a.progress.place - (boundary_at bounds a.index).place) a.looked
  pub linear : IsLinearIn d new (length new - (boundary_at bounds a.index).place) a.looked

-- what was cut anew stands in place of all behind its front
pub record HasReplacedTail {X : Type 0} (found : List (Result X LRLexError)) (bounds : List Boundary) (numbers : List ℕ) (a : Recut X)
    (found' : List (Result X LRLexError)) (bounds' : List Boundary) (numbers' : List ℕ) : Type 0 where
  pub items : found' ≡ take a.first found ++ a.progress.items.items
  pub boundaries : bounds' ≡ take a.index bounds ++ a.progress.boundaries
  pub ahead : numbers' ≡ take a.index numbers ++ a.progress.ahead.items

-- What was cut anew stands between its front and what follows old boundary j, moved to the place at hand: items, boundaries, and the
-- numbers that tell how far the tiles looked, raised where that is needed.
pub record HasReplacedMiddle {S X : Type 0} (number : S → ℕ) (seen : X → LexemeParts S) (found : List (Result X LRLexError)) (bounds : List Boundary) (numbers : List ℕ) (a : Recut X) (j : ℕ)
    (found' : List (Result X LRLexError)) (bounds' : List Boundary) (numbers' : List ℕ) : Type 0 where
  pub items : items_by number seen found' ≡ (items_by number seen (take a.first found) ++ items_by number seen a.progress.items.items)
      ++ map (rebased (boundary_at bounds j).place a.progress.place) (items_from (boundary_at bounds j).place (items_by number seen found))
  pub boundaries : bounds' ≡ (take a.index bounds ++ a.progress.boundaries)
      ++ map (moved_boundary (boundary_at bounds j).place a.progress.place) (drop (j + 1) bounds)
  pub ahead : AreRaised bounds numbers j a.progress.lookahead (length bounds) (take a.index numbers ++ a.progress.ahead.items) numbers'
