-- What is shown of the errors of a rule text.
use Rattle.std.specs.Prelude.{◌≡◌, ℕ, List, [], ◌∷◌, ◌++◌, codes, flat_map, MatchOption, ◌==◌, if◌then◌else◌}
use Rattle.std.specs.Str.{chars}
use Rattle.lrlex_base.specs.Spans.{as_span, span_start, span_end}
use Rattle.lrlex_base.specs.declared.spans.Span.{Span}
use Rattle.lrlex_parser.specs.LexBuildError.{message, kind_text, fault_kind, fault_spans}
use Rattle.lrlex_parser.specs.Text.{is_empty}
use Rattle.lrlex_parser.specs.declared.faults.LexErrorKind.{LexErrorKind}
use Rattle.lrlex_parser.specs.declared.faults.LexErrorKind.TheVariants.{PrematureEnd, RoutinesNotSupported, UnknownDeclaration, MissingSpace, InvalidName, UnknownStartState, DuplicateStartState, InvalidStartState, InvalidStartStateName, DuplicateName, RegexError, VerbatimNotSupported, TooManyRules}
use Rattle.lrlex_parser.specs.declared.faults.LexBuildError.{LexBuildError}
use Rattle.lrlex_report.specs.Carets.{shown_line, shown_rest}
use Rattle.lrlex_report.specs.FaultRanges.{told_span}
use Rattle.lrlex_report.specs.Listed.{unknown_name}
use Rattle.lrlex_report.specs.Notes.{fault_note}
use Rattle.lrlex_report.specs.PlaceTexts.{place_text}

-- the name of a kind
abbrev pub fault_name : LexErrorKind → List ℕ
fault_name PrematureEnd = codes "PrematureEnd"
fault_name RoutinesNotSupported = codes "RoutinesNotSupported"
fault_name UnknownDeclaration = codes "UnknownDeclaration"
fault_name MissingSpace = codes "MissingSpace"
fault_name InvalidName = codes "InvalidName"
fault_name UnknownStartState = codes "UnknownStartState"
fault_name DuplicateStartState = codes "DuplicateStartState"
fault_name InvalidStartState = codes "InvalidStartState"
fault_name InvalidStartStateName = codes "InvalidStartStateName"
fault_name DuplicateName = codes "DuplicateName"
fault_name (RegexError e) = codes "RegexError"
fault_name VerbatimNotSupported = codes "VerbatimNotSupported"
fault_name TooManyRules = codes "TooManyRules"

-- the text begins with `front`
abbrev pub BeginsWith : List ℕ → List ℕ → Type 0
BeginsWith front text = (rest : List ℕ) × (text ≡ front ++ rest)

-- the message of the kind; where `regex` refuses the pattern, its reason follows
abbrev pub IsMessageOf : LexErrorKind → List ℕ → Type 0
IsMessageOf kind text = MatchOption (kind_text kind) (BeginsWith (message kind ++ codes ": ") text) (λ known. text ≡ known)

-- the message at each of these places
abbrev pub at_each : (file rules said : List ℕ) → List Span → List ℕ
at_each file rules said xs = flat_map (λ x. place_text file rules (as_span x) said) xs

-- the first place of something that is declared twice; `INITIAL`, which no text declares, has an empty one
abbrev pub first_text : (file rules : List ℕ) → Span → List ℕ
first_text file rules x =
    if span_start x == span_end x then [] else place_text file rules (as_span x) (codes "first here")

-- the message at an error's place; of several, which are those of a duplicate, at each but the first, and then the first
abbrev pub places_text : (file rules said : List ℕ) → List Span → List ℕ
places_text file rules said [] = file ++ (codes ": " ++ (said ++ 10 ∷ []))
places_text file rules said (x ∷ []) = place_text file rules (as_span x) said
places_text file rules said (x ∷ y ∷ ys) =
    at_each file rules said (y ∷ ys) ++ first_text file rules x

-- a name in parentheses, of which at most 80 characters are shown
abbrev pub shown_name : (name : List ℕ) → List ℕ
shown_name name = if is_empty name then [] else codes " (" ++ (shown_line (shown_rest 80 (chars name)) ++ codes ")")

-- which name of a list of several start states isn't declared
abbrev pub name_part : (rules : List ℕ) (at : ℕ) → LexErrorKind → List ℕ
name_part rules at UnknownStartState = shown_name (unknown_name rules at)
name_part rules at kind = []

abbrev pub unknown_part : (rules : List ℕ) → LexBuildError → List ℕ
unknown_part rules e = name_part rules (told_span (fault_spans e)).start (fault_kind e)

-- what is wrong, without its places: the message, the name that isn't declared, and the mistake that it usually comes of
abbrev pub IsFaultMessage : (rules : List ℕ) → LexBuildError → List ℕ → Type 0
IsFaultMessage rules e text =
    (said : List ℕ) × IsMessageOf (fault_kind e) said × (text ≡ (said ++ unknown_part rules e) ++ fault_note rules e)

-- what is shown of an error
abbrev pub IsFaultText : (file rules : List ℕ) → LexBuildError → List ℕ → Type 0
IsFaultText file rules e text =
    (said : List ℕ) × IsFaultMessage rules e said × (text ≡ places_text file rules said (fault_spans e))

-- what is shown of errors, one after the other
abbrev pub AreFaultTexts : (file rules : List ℕ) → List LexBuildError → List ℕ → Type 0
AreFaultTexts file rules [] text = text ≡ []
AreFaultTexts file rules (e ∷ es) text =
    (front : List ℕ) × (back : List ℕ) × IsFaultText file rules e front × AreFaultTexts file rules es back
    × (text ≡ front ++ back)
