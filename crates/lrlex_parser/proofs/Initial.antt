-- A definition that comes of a rule text has the state that each rule file begins with.
use Rattle.std.proofs.Common.{◌≡◌, ℕ, Bool, true, false, List, [], ◌∷◌, ◌++◌, Option, Some, None, Ok, refl, sym, ap, ◌∙◌, drop, slice_get}
use Rattle.std.specs.Prelude.{◌+◌, if◌then◌else◌}
use Rattle.lrlex_rules.specs.declared.flags.LexFlags.{LexFlags}
use Rattle.lrlex_rules.specs.Definition.{StartState, Definition}
use Rattle.lrlex_rules.specs.Flags.{allows_comments}
use Rattle.lrlex_parser.specs.Text.{Piece, is_white, cut_lines}
use Rattle.lrlex_parser.specs.Event.{Event, Fault, FaultKind, fault_at, is_refused, states_of}
use Rattle.lrlex_parser.specs.Event.Event.{NewState, Fatal}
use Rattle.lrlex_parser.specs.Event.FaultKind.{PrematureEnd, RoutinesNotSupported}
use Rattle.lrlex_parser.specs.Declaration.{initial, declarations, trimmed_lines, state_event, section_lines, section_end}
use Rattle.lrlex_parser.specs.Outcome.{Settings, events_after, then_fatal, end_events, rules_section, rules_events, events_of, line_event, faults_after, definition_or_faults, outcome}

abbrev Begins : List Event → Type 0
Begins events = (rest : List Event) × (events ≡ NewState initial ∷ rest)

begins_push : (events : List Event) (e : Event) → Begins events → Begins (events ++ e ∷ [])
begins_push events e h = (h.0 ++ e ∷ [], ap (λ (es : List Event). es ++ e ∷ []) h.1)

begins_if : (b : Bool) (x y : List Event) → Begins x → Begins y → Begins (if b then x else y)
begins_if true x y h k = h
begins_if false x y h k = k

begins_after : {X : Type 0} (f : List Event → X → Event) (events : List Event) (xs : List X) → Begins events → Begins (events_after f events xs)
begins_after f events [] h = h
begins_after f events (x ∷ xs) h = begins_if (is_refused events) events (events_after f (events ++ f events x ∷ []) xs) h (begins_after f (events ++ f events x ∷ []) xs (begins_push events (f events x) h))

begins_then : (events : List Event) (kind : FaultKind) (at : ℕ) → Begins events → Begins (then_fatal events kind at)
begins_then events kind at h = begins_if (is_refused events) events (events ++ Fatal (fault_at kind at) ∷ []) h (begins_push events (Fatal (fault_at kind at)) h)

begins_end : (text : List ℕ) (events : List Event) (mark : Option Piece) → Begins events → Begins (end_events text events mark)
begins_end text events None h = h
begins_end text events (Some mark) h = begins_if (is_white (drop (mark.at + 2) text)) events (then_fatal events RoutinesNotSupported mark.at) h (begins_then events RoutinesNotSupported mark.at h)

begins_rules : (s : Settings) (text : List ℕ) (declared : List Event) (mark : Option Piece) → Begins declared → Begins (rules_events s text declared mark)
begins_rules s text declared None h = begins_then declared PrematureEnd _ h
begins_rules s text declared (Some mark) h =
    let rest = rules_section text mark in
    begins_end text (events_after (line_event s) declared (section_lines (allows_comments s.flags) (cut_lines rest))) (section_end (cut_lines rest))
    (begins_after (line_event s) declared (section_lines (allows_comments s.flags) (cut_lines rest)) h)

begins_all : (s : Settings) (text : List ℕ) → Begins (events_of s text)
begins_all s text =
    let all = declarations (allows_comments s.flags) text in
    begins_rules s text (events_after state_event (NewState initial ∷ []) all) (section_end (trimmed_lines text)) (begins_after state_event (NewState initial ∷ []) all ([], refl))

states_are : (flags : LexFlags) (events : List Event) (faults : List Fault) (d : Definition) → definition_or_faults flags events faults ≡ Ok d → states_of events ≡ d.states
states_are flags events [] d h = cc
states_are flags events (f ∷ fs) d h = cc

-- its states begin with that one
outcome_begins : (s : Settings) (text : List ℕ) (d : Definition) → outcome s text ≡ Ok d → (rest : List StartState) × (d.states ≡ initial ∷ rest)
outcome_begins s text d h =
    let all = begins_all s text in
    (states_of all.0, sym (states_are s.flags (events_of s text) (faults_after [] (events_of s text)) d h) ∙ ap states_of all.1)

-- so it stands first
pub outcome_first : (s : Settings) (text : List ℕ) (d : Definition) → outcome s text ≡ Ok d → slice_get d.states 0 ≡ Some initial
outcome_first s text d h = ap (λ (xs : List StartState). slice_get xs 0) (outcome_begins s text d h).1
