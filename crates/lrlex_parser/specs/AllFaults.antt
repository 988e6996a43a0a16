-- All faults of a rule text: a fatal fault ends its line alone, and the next line is read after it.
-- A line sees the states and rules that the lines before it declare. A faulty rule line declares nothing,
-- and a faulty declaration the names before its first faulty one.
use Rattle.std.specs.Prelude.{ℕ, ◌+◌, Bool, if◌then◌else◌, Option, Some, None, List, [], ◌∷◌, ◌++◌, length, drop}
use Rattle.std.specs.List.{flat_map}
use Rattle.lrlex_rules.specs.declared.flags.LexFlags.{LexFlags}
use Rattle.lrlex_rules.specs.Flags.{allows_comments}
use Rattle.lrlex_parser.specs.Text.{Piece, is_white, cut_lines}
use Rattle.lrlex_parser.specs.Event.{Fault, fault_at, Event, is_fatal}
use Rattle.lrlex_parser.specs.Event.FaultKind.{PrematureEnd, RoutinesNotSupported}
use Rattle.lrlex_parser.specs.Event.Event.{NewState, Fatal}
use Rattle.lrlex_parser.specs.Declaration.{Declared, initial, declared_by, state_event, section_lines, section_end, trimmed_lines}
use Rattle.lrlex_parser.specs.Outcome.{Settings, line_event, rules_section, faults_after}

-- what the build is asked with, at a line: whether `regex` refused its pattern
abbrev pub settings_at : LexFlags → ℕ → (ℕ → Bool) → ℕ → Settings
settings_at flags greatest refuses o = record { flags = flags; greatest_id = greatest; refused = if refuses o then Some o else None }

-- the events of these names, after earlier ones, up to the first faulty name
abbrev pub until_fatal : Event → List Event → List Event
until_fatal e later = if is_fatal e then e ∷ [] else e ∷ later

abbrev pub name_events : List Event → List Declared → List Event
name_events earlier [] = []
name_events earlier (name ∷ names) = let e = state_event earlier name in until_fatal e (name_events (earlier ++ e ∷ []) names)

-- the events of a declaration, and of a rule line
abbrev pub declaration_events : List Event → Piece → List Event
declaration_events earlier line = name_events earlier (declared_by line)

abbrev pub rule_events : LexFlags → ℕ → (ℕ → Bool) → List Event → Piece → List Event
rule_events flags greatest refuses earlier line = line_event (settings_at flags greatest refuses line.at) earlier line ∷ []

-- the events so far, and those of the lines that are left, whichever fault a line has
abbrev pub all_after : (List Event → Piece → List Event) → List Event → List Piece → List Event
all_after event earlier [] = earlier
all_after event earlier (line ∷ lines) = all_after event (earlier ++ event earlier line) lines

-- the lines of the declarations, and those of the rules, which begin after the first `%%`
abbrev pub declared_lines : Bool → List ℕ → List Piece
declared_lines comments text = section_lines comments (trimmed_lines text)

abbrev pub lines_after : Bool → List ℕ → Option Piece → List Piece
lines_after comments text None = []
lines_after comments text (Some mark) = section_lines comments (cut_lines (rules_section text mark))

abbrev pub rule_lines : Bool → List ℕ → List Piece
rule_lines comments text = lines_after comments text (section_end (trimmed_lines text))

-- the fault of the text as a whole, if it has one: no `%%`, or more text after a second one
abbrev pub routines_fault : List ℕ → Option Piece → Option Fault
routines_fault text None = None
routines_fault text (Some mark) = if is_white (drop (mark.at + 2) text) then None else Some (fault_at RoutinesNotSupported mark.at)

abbrev pub fault_after : List ℕ → Option Piece → Option Fault
fault_after text None = Some (fault_at PrematureEnd (length text))
fault_after text (Some mark) = routines_fault text (section_end (cut_lines (rules_section text mark)))

abbrev pub text_fault : List ℕ → Option Fault
text_fault text = fault_after text (section_end (trimmed_lines text))

abbrev pub then_fault : List Event → Option Fault → List Event
then_fault events None = events
then_fault events (Some f) = events ++ Fatal f ∷ []

-- the events of a rule text, where this tells of which lines `regex` refuses the pattern
abbrev pub all_events : LexFlags → ℕ → (ℕ → Bool) → List ℕ → List Event
all_events flags greatest refuses text =
    let comments = allows_comments flags in
    let declared = all_after declaration_events (NewState initial ∷ []) (declared_lines comments text) in
    then_fault (all_after (rule_events flags greatest refuses) declared (rule_lines comments text)) (text_fault text)

-- the events, parted after each fatal one
abbrev pub onto_first_part : Event → List (List Event) → List (List Event)
onto_first_part e [] = (e ∷ []) ∷ []
onto_first_part e (part ∷ parts) = (e ∷ part) ∷ parts

abbrev pub parted : List Event → List (List Event)
parted [] = [] ∷ []
parted (e ∷ es) = if is_fatal e then (e ∷ []) ∷ parted es else onto_first_part e (parted es)

-- The faults of each part, as the reading tells them. So duplicates of one original are one fault in one part, and another one in the next.
abbrev pub part_faults : List Event → List Fault
part_faults events = flat_map (faults_after []) (parted events)

-- all faults of a rule text
abbrev pub all_faults : LexFlags → ℕ → (ℕ → Bool) → List ℕ → List Fault
all_faults flags greatest refuses text = part_faults (all_events flags greatest refuses text)
