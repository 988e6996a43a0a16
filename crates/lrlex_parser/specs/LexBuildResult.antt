-- What parsing a rule text returns: a definition or faults.
use Rattle.std.specs.Prelude.{◌≡◌, ◌≢◌, ◌≤◌, ◌^◌, ℕ, Bool, false, ◌++◌, if◌then◌else◌, Option, Some, None, List, [], ◌∷◌, map, Result, Ok, Err, Vec}
use Rattle.std.specs.List.{filter_map}
use Rattle.std.specs.declared.alloc.Global.{Global}
use Rattle.regex.specs.Patterns.{Config}
use Rattle.regex.specs.Sources.{IsRefusal}
use Rattle.regex.specs.Failures.{IsRightKind}
use Rattle.regex.specs.declared.error.Error.{Error}
use Rattle.regex.specs.declared.error.Error.TheVariants.{Internal, OutOfMemory}
use Rattle.lrlex_base.specs.Spans.{Span, as_span}
use Rattle.lrlex_rules.specs.declared.flags.LexFlags.{LexFlags}
use Rattle.lrlex_parser.specs.declared.faults.LexBuildError.{LexBuildError}
use Rattle.lrlex_parser.specs.declared.faults.LexErrorKind.{LexErrorKind}
use Rattle.lrlex_parser.specs.declared.faults.LexErrorKind.TheVariants.{RegexError}
use Rattle.lrlex_rules.specs.Definition.{Definition}
use Rattle.lrlex_rules.specs.Flags.{config_of, size_limit_of}
use Rattle.lrlex_rules.specs.WrappedPattern.{wrapped}
use Rattle.lrlex_parser.specs.Event.{Fault, fault, is_refused, refused_patterns}
use Rattle.lrlex_parser.specs.Outcome.{Settings, events_of, outcome}
use Rattle.lrlex_parser.specs.AllFaults.{all_events, all_faults}
use Rattle.lrlex_parser.specs.LexErrorKind.{as_kind, is_regex_error}

-- what is seen of a result's value, or of its error
abbrev pub seen : {A B C D : Type 0} → (A → C) → (B → D) → Result A B → Result C D
seen value error (Ok x) = Ok (value x)
seen value error (Err e) = Err (error e)

abbrev pub as_fault : LexBuildError → Fault
as_fault e = fault (as_kind e.kind) (map as_span e.spans.items)

abbrev pub as_faults : Vec LexBuildError Global → List Fault
as_faults v = map as_fault v.items

-- the place of the fault of a pattern that `regex` refused, if there is one
abbrev pub first_start : List Span → Option ℕ
first_start [] = None
first_start (x ∷ xs) = Some x.start

abbrev pub refused_in : List Fault → Option ℕ
refused_in [] = None
refused_in (f ∷ fs) = if is_regex_error f.kind then first_start f.spans else refused_in fs

-- why `regex` refused patterns
abbrev pub regex_error : LexErrorKind → Option Error
regex_error (RegexError e) = Some e
regex_error _ = None

abbrev pub kind_error : LexBuildError → Option Error
kind_error e = regex_error e.kind

abbrev pub regex_errors : List LexBuildError → List Error
regex_errors errors = filter_map kind_error errors

-- `regex` refuses this pattern with this error, under this limit on its size
pub record IsRefused (config : Config) (limit : ℕ) (pattern : List ℕ) (error : Error) : Type 0 where
  pub by_grammar : IsRefusal config (wrapped pattern) error
  pub kind : IsRightKind config (wrapped pattern) error
  pub not_memory : error ≢ OutOfMemory
  pub no_internal : limit ≤ 2 ^ 34 → error ≢ Internal

-- `regex` refuses each of these patterns with the error at the same place, under this limit on their sizes
abbrev pub AreRefusals : Config → (limit : ℕ) → List (List ℕ) → List Error → Type 0
AreRefusals config limit [] [] = Unit {0}
AreRefusals config limit [] (e ∷ es) = ⊥
AreRefusals config limit (p ∷ ps) [] = ⊥
AreRefusals config limit (p ∷ ps) (e ∷ es) = IsRefused config limit p e × AreRefusals config limit ps es

-- the settings of a build
abbrev pub settings : LexFlags → ℕ → Option ℕ → Settings
settings flags greatest refused = record { flags = flags; greatest_id = greatest; refused = refused }

-- the place of the pattern that `regex` refused, as the answer has it
abbrev pub refused_by : {D : Type 0} → Result D (Vec LexBuildError Global) → Option ℕ
refused_by (Ok d) = None
refused_by (Err v) = refused_in (as_faults v)

-- the answer is what the rule text says, where `view` gives what a definition of the program says
abbrev pub IsAnswer : {D : Type 0} → (D → Definition) → LexFlags → ℕ → List ℕ → Result D (Vec LexBuildError Global) → Type 0
IsAnswer view flags greatest text answer = seen view as_faults answer ≡ outcome (settings flags greatest (refused_by answer)) text

-- each `RegexError` of these faults is why `regex` refused the pattern of that very line, wrapped
abbrev pub AreByRegex : LexFlags → ℕ → List ℕ → Vec LexBuildError Global → Type 0
AreByRegex flags greatest text v =
    AreRefusals (config_of flags) (size_limit_of flags) (refused_patterns (events_of (settings flags greatest (refused_in (as_faults v))) text)) (regex_errors v.items)

-- where the answer is faults, each `RegexError` is why `regex` refused that very pattern
abbrev pub AreOwnRefusals : {D : Type 0} → LexFlags → ℕ → List ℕ → Result D (Vec LexBuildError Global) → Type 0
AreOwnRefusals flags greatest text (Ok d) = Unit {0}
AreOwnRefusals flags greatest text (Err v) = AreByRegex flags greatest text v

-- these are all faults of the rule text, where `refuses` says of which lines `regex` refused the pattern; each `RegexError` is why
pub record AreAllFaults (flags : LexFlags) (greatest : ℕ) (text : List ℕ) (v : Vec LexBuildError Global) : Type 0 where
  pub refuses : ℕ → Bool
  pub exact : as_faults v ≡ all_faults flags greatest refuses text
  pub refusals : AreRefusals (config_of flags) (size_limit_of flags) (refused_patterns (all_events flags greatest refuses text)) (regex_errors v.items)

-- the faults that an outcome tells; none where it is a definition
abbrev pub faults_of : Result Definition (List Fault) → List Fault
faults_of (Ok d) = []
faults_of (Err faults) = faults

-- These faults begin with all that the reading tells of the text, where `regex` refuses the same pattern. Where none of those is fatal, there are no more.
pub record BeginAsRead (flags : LexFlags) (greatest : ℕ) (text : List ℕ) (faults : List Fault) : Type 0 where
  pub read : List Fault
  pub more : List Fault
  pub is_read : faults_of (outcome (settings flags greatest (refused_in read)) text) ≡ read
  pub begins : read ++ more ≡ faults
  pub same : is_refused (events_of (settings flags greatest (refused_in read)) text) ≡ false → more ≡ []
