-- The kinds of faults, as the program has them.
use Rattle.std.specs.Prelude.{Bool, true, false}
use Rattle.lrlex_parser.specs.declared.faults.LexErrorKind.{LexErrorKind}
use Rattle.lrlex_parser.specs.declared.faults.LexErrorKind.TheVariants as kinds
use Rattle.lrlex_parser.specs.declared.duplicates.Named.{Named}
use Rattle.lrlex_parser.specs.declared.duplicates.Named.TheVariants as names
use Rattle.lrlex_parser.specs.Event.{FaultKind, Subject}

abbrev pub as_kind : LexErrorKind → FaultKind
as_kind kinds.PrematureEnd = FaultKind.PrematureEnd
as_kind kinds.RoutinesNotSupported = FaultKind.RoutinesNotSupported
as_kind kinds.UnknownDeclaration = FaultKind.UnknownDeclaration
as_kind kinds.MissingSpace = FaultKind.MissingSpace
as_kind kinds.InvalidName = FaultKind.InvalidName
as_kind kinds.UnknownStartState = FaultKind.UnknownStartState
as_kind kinds.DuplicateStartState = FaultKind.DuplicateStartState
as_kind kinds.InvalidStartState = FaultKind.InvalidStartState
as_kind kinds.InvalidStartStateName = FaultKind.InvalidStartStateName
as_kind kinds.DuplicateName = FaultKind.DuplicateName
as_kind (kinds.RegexError _) = FaultKind.RegexError
as_kind kinds.VerbatimNotSupported = FaultKind.VerbatimNotSupported
as_kind kinds.TooManyRules = FaultKind.TooManyRules

abbrev pub is_regex_error : FaultKind → Bool
is_regex_error FaultKind.RegexError = true
is_regex_error _ = false

-- what was declared twice, as the program has it
abbrev pub as_subject : Named → Subject
as_subject names.State = Subject.StateName
as_subject names.Rule = Subject.RuleName
