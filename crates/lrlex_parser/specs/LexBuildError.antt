-- What contracts see of faults.
use Rattle.std.specs.Prelude.{ℕ, ◌<◌, List, All, codes, length, Option, Some, None}
use Rattle.lrlex_base.specs.declared.spans.Span.{Span}
use Rattle.lrlex_base.specs.declared.spans.SpansKind.{SpansKind}
use Rattle.lrlex_base.specs.declared.spans.SpansKind.TheVariants as shown
use Rattle.lrlex_base.specs.Spans.{Fits}
use Rattle.lrlex_parser.specs.declared.faults.LexErrorKind.{LexErrorKind}
use Rattle.lrlex_parser.specs.declared.faults.LexErrorKind.TheVariants.{PrematureEnd, RoutinesNotSupported, UnknownDeclaration, MissingSpace, InvalidName, UnknownStartState, DuplicateStartState, InvalidStartState, InvalidStartStateName, DuplicateName, RegexError, VerbatimNotSupported, TooManyRules}
use Rattle.lrlex_parser.specs.declared.faults.LexBuildError.{LexBuildError}

-- what is wrong, without the reason that `regex` gives
abbrev pub message : LexErrorKind → List ℕ
message PrematureEnd = codes "File ends prematurely"
message RoutinesNotSupported = codes "Routines not currently supported"
message UnknownDeclaration = codes "Unknown declaration"
message MissingSpace = codes "Rule is missing a space"
message InvalidName = codes "Invalid rule name"
message UnknownStartState = codes "Start state not known"
message DuplicateStartState = codes "Start state already exists"
message InvalidStartState = codes "Invalid start state"
message InvalidStartStateName = codes "Invalid start state name"
message DuplicateName = codes "Rule name already exists"
message (RegexError e) = codes "Invalid regular expression"
message VerbatimNotSupported = codes "Verbatim code not supported"
message TooManyRules = codes "Too many rules for the token id type"

-- the text of a fault, where it has no words of `regex`
abbrev pub kind_text : LexErrorKind → Option (List ℕ)
kind_text (RegexError e) = None
kind_text kind = Some (message kind)

-- what the spans of a fault stand for
abbrev pub kind_of_spans : LexErrorKind → SpansKind
kind_of_spans DuplicateStartState = shown.DuplicationError
kind_of_spans DuplicateName = shown.DuplicationError
kind_of_spans _ = shown.Error

abbrev pub fault_kind : LexBuildError → LexErrorKind
fault_kind e = e.kind

abbrev pub fault_spans : LexBuildError → List Span
fault_spans e = e.spans.items

-- the fault names a place, and each of its places is in the rule text
pub record IsPlaced (rules : List ℕ) (e : LexBuildError) : Type 0 where
  pub some : 0 < length (fault_spans e)
  pub fit : All (Fits rules) (fault_spans e)
