-- The faults of a rule text, as C reads them.
use Rattle.std.specs.Prelude.{ℕ, List, [], ◌∷◌, codes, length, option_map, slice_get}
use Rattle.std.specs.Option.{option_and_then}
use Rattle.std.specs.declared.option.Option.{Option}
use Rattle.lrlex_base.specs.Places.{line_of, column_of}
use Rattle.lrlex_base.specs.Spans.{span_start, span_end}
use Rattle.lrlex_base.specs.declared.spans.Span.{Span}
use Rattle.lrlex_report.specs.FaultTexts.{fault_name}
use Rattle.lrlex_report.specs.PlaceTexts.{nearest}
use Rattle.lrlex_parser.specs.LexBuildError.{fault_kind, fault_spans}
use Rattle.lrlex_parser.specs.declared.faults.LexBuildError.{LexBuildError}
use Rattle.lrlex_parser.specs.declared.faults.LexErrorKind.{LexErrorKind}
use Rattle.lrlex_parser.specs.declared.faults.LexErrorKind.TheVariants.{PrematureEnd, RoutinesNotSupported, UnknownDeclaration, MissingSpace, InvalidName, UnknownStartState, DuplicateStartState, InvalidStartState, InvalidStartStateName, DuplicateName, RegexError, VerbatimNotSupported, TooManyRules}
use Rattle.lrlex_handles.specs.declared.structs.Fault.{Fault}
use Rattle.lrlex_handles.specs.declared.structs.FaultSpan.{FaultSpan}

abbrev pub kind_number : LexErrorKind → ℕ
kind_number PrematureEnd = 0
kind_number RoutinesNotSupported = 1
kind_number UnknownDeclaration = 2
kind_number MissingSpace = 3
kind_number InvalidName = 4
kind_number UnknownStartState = 5
kind_number DuplicateStartState = 6
kind_number InvalidStartState = 7
kind_number InvalidStartStateName = 8
kind_number DuplicateName = 9
kind_number (RegexError e) = 10
kind_number VerbatimNotSupported = 11
kind_number TooManyRules = 12

-- the names of the kinds, each at its number
abbrev pub fault_names : List (List ℕ)
fault_names = fault_name PrematureEnd ∷ fault_name RoutinesNotSupported ∷ fault_name UnknownDeclaration ∷ fault_name MissingSpace ∷ fault_name InvalidName ∷ fault_name UnknownStartState ∷ fault_name DuplicateStartState ∷ fault_name InvalidStartState ∷ fault_name InvalidStartStateName ∷ fault_name DuplicateName ∷ codes "RegexError" ∷ fault_name VerbatimNotSupported ∷ fault_name TooManyRules ∷ []

-- a span with line and column of its start
abbrev pub span_by : (rules : List ℕ) → Span → FaultSpan
span_by rules s = let at = nearest rules (span_start s) in
    record { start = span_start s; end = span_end s; line = line_of rules at; column = column_of rules at }

-- a fault with its first span
abbrev pub fault_with : (rules : List ℕ) → LexBuildError → Span → Fault
fault_with rules e s = let first = span_by rules s in record {
  start = first.start;
  end = first.end;
  line = first.line;
  column = first.column;
  spans = length (fault_spans e);
  kind = kind_number (fault_kind e);
}

abbrev pub fault_by : (rules : List ℕ) → LexBuildError → Option Fault
fault_by rules e = option_map (fault_with rules e) (slice_get (fault_spans e) 0)

-- the fault at an index of a refused rule text
abbrev pub fault_at : Option (List ℕ × List LexBuildError) → ℕ → Option Fault
fault_at r index = option_and_then (λ r. option_and_then (fault_by r.0) (slice_get r.1 index)) r

-- a span of it, at an index
abbrev pub fault_span_at : Option (List ℕ × List LexBuildError) → (index span : ℕ) → Option FaultSpan
fault_span_at r index span = option_and_then (λ r. option_and_then (λ e. option_map (span_by r.0) (slice_get (fault_spans e) span)) (slice_get r.1 index)) r
