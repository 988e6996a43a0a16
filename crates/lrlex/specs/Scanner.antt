-- A scanner, and what its steps say.
use Rattle.std.specs.Prelude.{◌≡◌, ℕ, ◌+◌, ◌^◌, ◌<◌, ◌≤◌, ◌==◌, max, true, false, List, All, [], ◌∷◌, ◌++◌, length, drop, vec_len, Option, Some, None, IfSome, MatchOption, Result, IfOk, OnErr, option_map, if◌then◌else◌, IsCharBoundary}
use Rattle.std.specs.declared.alloc.AllocError.{AllocError}
use Rattle.lrlex_base.specs.Spans.{Span, as_span, span, span_end}
use Rattle.lrlex_boundaries.specs.Entries.{plain, AreEntries}
use Rattle.lrlex_rules.specs.Definition.{Definition}
use Rattle.lrlex_rules.specs.RuleParts.{state_number}
use Rattle.lrlex_rules.specs.declared.states.StartStateId.{StartStateId}
use Rattle.lrlex_rules.specs.Active.{is_state, lexeme_id, lacks_id, rule_at}
use Rattle.lrlex_definition.specs.RuleTable.{AreOf}
use Rattle.lrlex.specs.Searcher.{IsSearcherOf}
use Rattle.lrlex_rules.specs.Tiling.{Tile, End, Done, NoMatch, NoTarget, IsEnd, IsStuck, IsTaken, IsTiling, IsWinner, Wins, stack_after, top}
use Rattle.lrlex_definition.specs.RuleTable.{definition_by}
use Rattle.lrlex.specs.Work.{HasWorked, most_cells_by, won_bytes}
use Rattle.lrlex_definition.specs.declared.rule_table.RuleTable.{RuleTable}
use Rattle.lrlex.specs.declared.lexing.cursor.Cursor.{Cursor}
use Rattle.lrlex.specs.declared.lexing.cursor.ScanPlace.{ScanPlace}
use Rattle.lrlex.specs.declared.lexing.cursor.Sought.{Sought}
use Rattle.lrlex.specs.declared.lexing.scanner.ScannedTile.{ScannedTile}
use Rattle.lrlex.specs.declared.lexing.scanner.ScanEnd.{ScanEnd}
use Rattle.lrlex.specs.declared.lexing.scanner.ScanEnd.TheVariants.{NoId, NoState}
use Rattle.lrlex.specs.declared.lexing.scanner.ScanEnd.TheVariants.{Done as IsDone, NoMatch as HasNoMatch, NoTarget as HasNoTarget}
use Rattle.lrlex.specs.declared.lexing.scanner.Step.{Step}
use Rattle.lrlex.specs.declared.lexing.winner.Tile.{Tile as Won}
use Rattle.lrlex.specs.declared.lexing.scanner.Step.TheVariants.{Tile as Found, End as Over}

-- The definition that a scanner goes by, its text, the place up to which it has come, and its stack of start states there,
-- from bottom to top. The stack is empty where the definition has no state 0. It looks at no more than so many cells of tables.
pub record Scanned : Type 0 where
  pub definition : Definition
  pub text : List ℕ
  pub place : ℕ
  pub stack : List ℕ
  pub most_cells : ℕ

-- a scanner at the front of a text
abbrev pub at_front : Definition → List ℕ → (most_cells : ℕ) → Scanned
at_front d text most = record { definition = d; text = text; place = 0; stack = if is_state d 0 then 0 ∷ [] else []; most_cells = most }

-- it is at the front of this text
abbrev pub IsAtFront : Definition → List ℕ → Scanned → Type 0
IsAtFront d text s = s ≡ at_front d text s.most_cells

-- the start state on top of its stack, if it has one
abbrev pub top_state : List ℕ → Option ℕ
top_state [] = None
top_state (q ∷ qs) = Some (top (q ∷ qs))

-- the text from its place on
abbrev pub left : Scanned → List ℕ
left s = drop s.place s.text

-- a tile that a scanner gives at this place: its rule, the id of the rule's lexemes, and its bytes
pub record IsTileAt {S : Type 0} (number : S → ℕ) (d : Definition) (place : ℕ) (x : ScannedTile S) (t : Tile) : Type 0 where
  pub rule : x.rule ≡ t.rule
  pub id : option_map number x.id ≡ lexeme_id (rule_at d t.rule)
  pub bytes : as_span x.span ≡ span place (place + t.len)

-- why it gives no more tiles
abbrev pub EndsBy : {S : Type 0} → (S → ℕ) → Scanned → ScanEnd S → Type 0
EndsBy number s IsDone = IsEnd s.definition (left s) s.stack Done
EndsBy number s (HasNoMatch q) = IsEnd s.definition (left s) s.stack (NoMatch (state_number q))
EndsBy number s (NoId k) = (t : Tile) × (t.rule ≡ k) × IsWinner s.definition (left s) s.stack t × (lacks_id (rule_at s.definition k) ≡ true)
EndsBy number s (HasNoTarget x) = (t : Tile) × IsTileAt number s.definition s.place x t × IsEnd s.definition (left s) s.stack (NoTarget t)
EndsBy number s NoState = is_state s.definition 0 ≡ false

-- the error of a run that ends so where a scanner stands at this place: where it is, and the start state in which no rule matches
abbrev pub end_error : {S : Type 0} → ScanEnd S → (place : ℕ) → Option (Span × Option StartStateId)
end_error IsDone place = None
end_error (HasNoMatch q) place = Some (span place place, Some q)
end_error (NoId k) place = Some (span place place, None)
end_error (HasNoTarget x) place = Some (span place place, None)
end_error NoState place = Some (span place place, None)

-- A step says what comes at the scanner's place: the tile that is taken there, or why there is none.
abbrev pub IsStep : {S : Type 0} → (S → ℕ) → Scanned → Step S → Type 0
IsStep number s (Found x) = (t : Tile) × IsTileAt number s.definition s.place x t × IsTaken s.definition (left s) s.stack t
IsStep number s (Over e) = EndsBy number s e

-- a scanner past a tile: the rule's target has moved its stack
abbrev pub past : {S : Type 0} → Scanned → ScannedTile S → Scanned
past s x = record {
  definition = s.definition;
  text = s.text;
  place = span_end x.span;
  stack = stack_after s.stack (rule_at s.definition x.rule).target;
  most_cells = s.most_cells;
}

-- after a step it stands past the tile, and at an end where it was
abbrev pub after_step : {S : Type 0} → Scanned → Step S → Scanned
after_step s (Found x) = past s x
after_step s (Over e) = s

-- what a scanner is inside, by its rules and text
abbrev pub scanned_by : {S : Type 0} → (S → ℕ) → RuleTable S → List ℕ → Cursor → Scanned
scanned_by number table text c = record { definition = definition_by number table; text = text; place = c.place; stack = plain c.stack.items; most_cells = most_cells_by table text }

-- a scanner can stand here: between characters, with a stack of the definition's states, as entries
pub record IsStand (d : Definition) (text : List ℕ) (place : ℕ) (stack : List (ℕ × ℕ)) : Type 0 where
  pub boundary : IsCharBoundary text place
  pub entries : AreEntries stack
  pub states : All (λ q. is_state d q ≡ true) (plain stack)
  pub some : 0 < length (plain stack)
  pub room : length (plain stack) + length text < 2 ^ 64 + place

-- This is what wins at the place, in this state: a rule, and bytes that end between characters. None where no rule does.
pub record IsSought {S : Type 0} (number : S → ℕ) (table : RuleTable S) (text : List ℕ) (place state : ℕ) (winner : Option Won) : Type 0 where
  pub inside : place < length text
  pub wins : MatchOption winner (IsStuck (definition_by number table) state (drop place text)) (λ t. Wins (definition_by number table) state (drop place text) t.rule t.len)
  pub tile : IfSome winner (λ t. IsCharBoundary (drop place text) t.len × (t.rule < vec_len table.rules))

-- what was sought at this place, if anything was
abbrev pub sought_at : (place : ℕ) → Option Sought → Option (Option Won)
sought_at place None = None
sought_at place (Some s) = if s.place == place then Some s.winner else None

-- the place up to which a scanner has looked for winners: past what wins at its place, where that was sought
abbrev pub sought_to : (place : ℕ) → Option (Option Won) → ℕ
sought_to place None = place
sought_to place (Some winner) = place + max 1 (won_bytes winner)

-- It stands where it can, its rules are those of the state on top, and what finds winners is of the definition and the text. What was
-- sought at the place wins there. It has looked for winners in linear time, unless that is lost.
pub record IsCursorOf {S : Type 0} (number : S → ℕ) (table : RuleTable S) (text : List ℕ) (c : Cursor) : Type 0 where
  pub stands : IsStand (definition_by number table) text c.place c.stack.items
  pub initial : is_state (definition_by number table) 0 ≡ true
  pub rules : AreOf number table c.rules.state c.rules
  pub state : c.rules.state ≡ top (plain c.stack.items)
  pub searcher : IsSearcherOf table text c.searcher
  pub behind : IfSome c.sought (λ s. s.place ≤ c.place)
  pub sought : IfSome (sought_at c.place c.sought) (IsSought number table text c.place c.rules.state)
  pub worked : c.lost ≡ false → HasWorked table c.from (sought_to c.place (sought_at c.place c.sought)) c.searcher.ends

-- the same of what there may be
abbrev pub scanned : {S : Type 0} → (S → ℕ) → RuleTable S → List ℕ → Option Cursor → Scanned
scanned number table text (Some c) = scanned_by number table text c
scanned number table text None = record { definition = definition_by number table; text = text; place = 0; stack = []; most_cells = most_cells_by table text }

abbrev pub IsScannerOf : {S : Type 0} → (S → ℕ) → RuleTable S → List ℕ → Option Cursor → Type 0
IsScannerOf number table text (Some c) = IsCursorOf number table text c
IsScannerOf number table text None = is_state (definition_by number table) 0 ≡ false

-- a scanner of the definition and the text stands there: without a state 0 at the front, with no stack
pub record IsPlaceOf (d : Definition) (text : List ℕ) (p : ScanPlace) : Type 0 where
  pub stands : is_state d 0 ≡ true → IsStand d text p.place p.stack.items
  pub stateless : is_state d 0 ≡ false → (p.place ≡ 0) × (p.stack.items ≡ [])

-- a scanner that stands there
abbrev pub standing : Definition → List ℕ → ScanPlace → (most_cells : ℕ) → Scanned
standing d text p most = record { definition = d; text = text; place = p.place; stack = plain p.stack.items; most_cells = most }

-- place and stack are what they were
pub record StayedAt (old new : Cursor) : Type 0 where
  pub place : new.place ≡ old.place
  pub stack : new.stack.items ≡ old.stack.items

-- A step was given: it says what comes at the place, and the cursor stands past it. After refused memory it stands where it stood.
pub record HasGivenStep {S : Type 0} (number : S → ℕ) (table : RuleTable S) (text : List ℕ) (old : Cursor) (result : Result (Step S) AllocError) (new : Cursor) : Type 0 where
  pub cursor : IsCursorOf number table text new
  pub step : IfOk result (IsStep number (scanned_by number table text old))
  pub moved : IfOk result (λ s. scanned_by number table text new ≡ after_step (scanned_by number table text old) s)
  pub stayed : OnErr result (StayedAt old new)

-- From the front of its text these tiles lead a scanner here.
pub record AreScanned (ts : List Tile) (s : Scanned) : Type 0 where
  pub goes_on : (us : List Tile) (e : End) → IsTiling s.definition (left s) s.stack us e → IsTiling s.definition s.text (0 ∷ []) (ts ++ us) e
