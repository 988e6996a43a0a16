-- What a rule file says, one event after another, and what comes of it.
use Rattle.std.specs.Prelude.{ℕ, ◌+◌, Bool, true, false, Option, Some, None, List, [], ◌∷◌, length, Result, Ok, Err}
use Rattle.std.specs.List.{filter_map, list_any}
use Rattle.lrlex_base.specs.Spans.{Span, span, at_place}
use Rattle.lrlex_rules.specs.Definition.{StartState, Rule}
use Rattle.lrlex_parser.specs.Text.{Piece}

-- the span of a piece
abbrev pub span_of : Piece → Span
span_of x = span x.at (x.at + length x.text)

-- what can be wrong with a rule text
pub data FaultKind : Type 0 where
  PrematureEnd : FaultKind
  RoutinesNotSupported : FaultKind
  UnknownDeclaration : FaultKind
  MissingSpace : FaultKind
  InvalidName : FaultKind
  UnknownStartState : FaultKind
  DuplicateStartState : FaultKind
  InvalidStartState : FaultKind
  InvalidStartStateName : FaultKind
  DuplicateName : FaultKind
  RegexError : FaultKind
  VerbatimNotSupported : FaultKind
  TooManyRules : FaultKind

-- a fault, and the places that it names
pub record Fault : Type 0 where
  pub kind : FaultKind
  pub spans : List Span

abbrev pub fault : FaultKind → List Span → Fault
fault kind spans = record { kind = kind; spans = spans }

abbrev pub fault_at : FaultKind → ℕ → Fault
fault_at kind x = fault kind (at_place x ∷ [])

-- goes on where there is no fault
infixl 10 ◌>>=◌
abbrev pub ◌>>=◌ : {A B : Type 0} → Result A Fault → (A → Result B Fault) → Result B Fault
(Ok x) >>= f = f x
(Err e) >>= f = Err e

-- what may be declared twice
pub data Subject : Type 0 where
  StateName : Subject
  RuleName : Subject

-- what a line, or a name in it, says; a rule line may say a pattern that `regex` refuses
pub data Event : Type 0 where
  NewState : StartState → Event
  NewRule : Rule → Event
  Duplicate : Subject → (original found : Span) → Event
  Verbatim : Span → Event
  Refused : (at : ℕ) → (pattern : List ℕ) → Event
  Fatal : Fault → Event

abbrev pub is_fatal : Event → Bool
is_fatal (Refused at pattern) = true
is_fatal (Fatal f) = true
is_fatal _ = false

-- reading has ended with a fatal fault
abbrev pub is_refused : List Event → Bool
is_refused events = list_any is_fatal events

-- the states and the rules that were declared so far
abbrev pub new_state : Event → Option StartState
new_state (NewState s) = Some s
new_state _ = None

abbrev pub new_rule : Event → Option Rule
new_rule (NewRule r) = Some r
new_rule _ = None

abbrev pub states_of : List Event → List StartState
states_of events = filter_map new_state events

abbrev pub rules_of : List Event → List Rule
rules_of events = filter_map new_rule events

-- the patterns that `regex` refused
abbrev pub refused_pattern : Event → Option (List ℕ)
refused_pattern (Refused at pattern) = Some pattern
refused_pattern _ = None

abbrev pub refused_patterns : List Event → List (List ℕ)
refused_patterns events = filter_map refused_pattern events
