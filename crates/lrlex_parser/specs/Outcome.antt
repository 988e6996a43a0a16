-- What a whole rule file says: its events, and the definition or the faults that come of them.
use Rattle.std.specs.Prelude.{ℕ, ◌+◌, Bool, true, false, ◌&&◌, if◌then◌else◌, Option, Some, None, List, [], ◌∷◌, ◌++◌, length, drop, nat_lt, ◌==◌, Result, Ok, Err}
use Rattle.std.specs.Option.{option_and_then, option_map_or, is_some}
use Rattle.std.specs.List.{list_any, find, prefix_len, filter_map}
use Rattle.std.specs.Str.{chars}
use Rattle.lrlex_rules.specs.declared.flags.LexFlags.{LexFlags}
use Rattle.lrlex_rules.specs.Flags.{resolved, has_posix_escapes, allows_comments, config_of}
use Rattle.lrlex_parser.specs.Text.{Piece, piece, is_white, same_text, cut_lines}
use Rattle.lrlex_base.specs.Classes.{is_blank, is_white_space}
use Rattle.lrlex_parser.specs.Event.{span_of, Fault, fault, fault_at, FaultKind, Event, Subject, is_refused, states_of, rules_of}
use Rattle.lrlex_base.specs.Spans.{Span, same_span}
use Rattle.lrlex_rules.specs.Definition.{Rule, Definition}
use Rattle.lrlex_parser.specs.Event.FaultKind.{PrematureEnd, RoutinesNotSupported, DuplicateStartState, DuplicateName, RegexError, VerbatimNotSupported, TooManyRules}
use Rattle.lrlex_parser.specs.Event.Event.{NewState, NewRule, Duplicate, Verbatim, Refused, Fatal}
use Rattle.lrlex_parser.specs.Event.Subject.{StateName, RuleName}
use Rattle.lrlex_parser.specs.Declaration.{initial, declarations, trimmed_lines, state_event, section_lines, section_end}
use Rattle.lrlex_parser.specs.Escape.{trim_head}
use Rattle.lrlex_parser.specs.RuleLine.{LineParts, Pattern, split, read_pattern}

-- what the build is asked with: the flags, the greatest value of the token id type, and the rule line, if any, whose pattern `regex` refused
pub record Settings : Type 0 where
  pub flags : LexFlags
  pub greatest_id : ℕ
  pub refused : Option ℕ

-- The events so far, and those of the items that are left, each of which looks at the events before it. None follows a fatal one.
abbrev pub events_after : {X : Type 0} → (List Event → X → Event) → List Event → List X → List Event
events_after event earlier [] = earlier
events_after event earlier (x ∷ xs) = if is_refused earlier then earlier else events_after event (earlier ++ event earlier x ∷ []) xs

-- the events and this fault, unless an earlier one was fatal
abbrev pub then_fatal : List Event → FaultKind → ℕ → List Event
then_fatal events kind at = if is_refused events then events else events ++ Fatal (fault_at kind at) ∷ []

-- where an earlier rule has this name
abbrev pub has_name : List ℕ → Rule → Bool
has_name name rule = option_map_or (λ (n : List ℕ). same_text n name) rule.name false

abbrev pub rule_with_name : List Rule → Option (List ℕ) → Option Rule
rule_with_name rules name = option_and_then (λ (n : List ℕ). find (has_name n) rules) name

-- A pattern makes a new rule, unless there are too many or `regex` refuses it. The rule's id is the number of rules before it.
abbrev pub rule_event : Settings → List Rule → ℕ → LineParts → Pattern → Event
rule_event s rules o parts pattern =
    if nat_lt s.greatest_id (length rules) then Fatal (fault_at TooManyRules o)
    else (if option_map_or (λ (x : ℕ). x == o) s.refused false then Refused o pattern.text
    else NewRule (record {
      id = Some (length rules);
      name = parts.label.name;
      name_span = parts.label.span;
      re_str = pattern.text;
      start_states = pattern.start_states;
      target = parts.target;
      config = config_of s.flags;
    }))

abbrev pub pattern_event : Settings → List Rule → ℕ → LineParts → Result Pattern Fault → Event
pattern_event s rules o parts (Ok pattern) = rule_event s rules o parts pattern
pattern_event s rules o parts (Err fault) = Fatal fault

-- a line's parts make a duplicate of an earlier rule, a new rule or a fatal fault
abbrev pub parts_event : Settings → List Event → ℕ → LineParts → Option Rule → Event
parts_event s earlier o parts (Some original) = Duplicate RuleName original.name_span parts.label.span
parts_event s earlier o parts None = pattern_event s (rules_of earlier) o parts (read_pattern (has_posix_escapes s.flags) (states_of earlier) o (trim_head parts.head))

abbrev pub split_event : Settings → List Event → ℕ → Result LineParts Fault → Event
split_event s earlier o (Err fault) = Fatal fault
split_event s earlier o (Ok parts) = parts_event s earlier o parts (rule_with_name (rules_of earlier) parts.label.name)

-- a line that begins with white space is code to be copied (POSIX lex), which is not supported
abbrev pub is_verbatim : Piece → Bool
is_verbatim line = nat_lt 0 (prefix_len is_white_space (chars line.text))

-- the event of a line of the rules section
abbrev pub line_event : Settings → List Event → Piece → Event
line_event s earlier line = if is_verbatim line then Verbatim (span_of line) else split_event s earlier line.at (split (states_of earlier) line)

-- the rules section begins after the `%%` and the blanks that follow it
abbrev pub rules_section : List ℕ → Piece → Piece
rules_section text mark = let o = mark.at + 2 in let n = prefix_len is_blank (drop o text) in piece (o + n) (drop (o + n) text)

-- routines come after a second `%%`; they are not supported
abbrev pub end_events : List ℕ → List Event → Option Piece → List Event
end_events text events None = events
end_events text events (Some mark) = if is_white (drop (mark.at + 2) text) then events else then_fatal events RoutinesNotSupported mark.at

abbrev pub rules_events : Settings → List ℕ → List Event → Option Piece → List Event
rules_events s text declared None = then_fatal declared PrematureEnd (length text)
rules_events s text declared (Some mark) =
    let rest = rules_section text mark in
    end_events text (events_after (line_event s) declared (section_lines (allows_comments s.flags) (cut_lines rest))) (section_end (cut_lines rest))

-- the events of a rule file after earlier events, where comments are allowed or not in its declarations
abbrev pub file_events : Settings → Bool → List ℕ → List Event → List Event
file_events s comments text earlier = rules_events s text (events_after state_event earlier (declarations comments text)) (section_end (trimmed_lines text))

-- the events of a rule file
abbrev pub events_of : Settings → List ℕ → List Event
events_of s text = file_events s (allows_comments s.flags) text (NewState initial ∷ [])

-- the place of a duplicate of this original
abbrev pub same_subject : Subject → Subject → Bool
same_subject StateName StateName = true
same_subject RuleName RuleName = true
same_subject _ _ = false

abbrev pub duplicate_of : Subject → Span → Event → Option Span
duplicate_of subject original (Duplicate subject' original' found) = if same_subject subject' subject && same_span original' original then Some found else None
duplicate_of subject original _ = None

abbrev pub kind_of : Subject → FaultKind
kind_of StateName = DuplicateStartState
kind_of RuleName = DuplicateName

-- The fault of an event, with the events before it and after it. All duplicates of one original are one fault, which stands where the first does.
abbrev pub fault_of : List Event → Event → List Event → List Fault
fault_of earlier (NewState state) later = []
fault_of earlier (NewRule rule) later = []
fault_of earlier (Duplicate subject original found) later =
    if list_any (λ e. is_some (duplicate_of subject original e)) earlier then []
    else fault (kind_of subject) (original ∷ found ∷ filter_map (duplicate_of subject original) later) ∷ []
fault_of earlier (Refused at pattern) later = fault_at RegexError at ∷ []
fault_of earlier (Verbatim span) later = fault VerbatimNotSupported (span ∷ []) ∷ []
fault_of earlier (Fatal fault) later = fault ∷ []

-- the faults of the events that follow these
abbrev pub faults_after : List Event → List Event → List Fault
faults_after earlier [] = []
faults_after earlier (e ∷ later) = fault_of earlier e later ++ faults_after (earlier ++ e ∷ []) later

abbrev pub definition_or_faults : LexFlags → List Event → List Fault → Result Definition (List Fault)
definition_or_faults flags events [] = Ok (record { states = states_of events; rules = rules_of events; flags = resolved flags })
definition_or_faults flags events (f ∷ fs) = Err (f ∷ fs)

-- the definition that a rule text makes, or its faults
abbrev pub outcome : Settings → List ℕ → Result Definition (List Fault)
outcome s text = let events = events_of s text in definition_or_faults s.flags events (faults_after [] events)
