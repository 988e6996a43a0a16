-- What contracts see of a survey of all faults.
use Rattle.std.specs.Prelude.{◌≡◌, ℕ, true, false, Bool, List, [], ◌∷◌, ◌++◌, map}
use Rattle.lrlex_rules.specs.declared.flags.LexFlags.{LexFlags}
use Rattle.lrlex_parser.specs.declared.text.Line.{Line}
use Rattle.lrlex_parser.specs.declared.faults.LexBuildError.{LexBuildError}
use Rattle.lrlex_parser.specs.declared.survey.Survey.{Survey}
use Rattle.lrlex_rules.specs.Flags.{resolved, config_of, size_limit_of}
use Rattle.lrlex_parser.specs.Event.{Event, is_fatal, is_refused, states_of, rules_of, refused_patterns}
use Rattle.lrlex_parser.specs.AllFaults.{all_after, rule_events, part_faults}
use Rattle.lrlex_parser.specs.LexBuildResult.{as_fault, regex_errors, AreRefusals}
use Rattle.lrlex_parser.specs.LexParser.{Represents, as_piece}

-- the events have no fatal one but the last
pub record EndsFatal (events : List Event) : Type 0 where
  pub before : List Event
  pub last : Event
  pub split : events ≡ before ++ last ∷ []
  pub calm : is_refused before ≡ false
  pub fatal : is_fatal last ≡ true

-- the survey has what these events say: told up to the last fatal one that was passed over, and what its parser has read since
pub record Surveys {S : Type 0} (number : S → ℕ) (flags : LexFlags) (v : Survey S) (events : List Event) : Type 0 where
  pub since : List Event
  pub parser : Represents number flags v.parser since
  pub states : states_of since ≡ states_of events
  pub rules : rules_of since ≡ rules_of events
  pub told : (more : List Event) → part_faults (events ++ more) ≡ map as_fault v.told.items ++ part_faults (since ++ more)
  pub patterns : List (List ℕ)
  pub refused : refused_patterns events ≡ patterns ++ refused_patterns since
  pub refusals : AreRefusals (config_of flags) (size_limit_of flags) patterns (regex_errors v.told.items)

-- its parser has met no fatal fault since, or just met one
abbrev pub IsCalm : {S : Type 0} → (S → ℕ) → LexFlags → Survey S → List Event → Type 0
IsCalm number flags v events = (s : Surveys number flags v events) × (is_refused s.since ≡ false)

abbrev pub IsAtFault : {S : Type 0} → (S → ℕ) → LexFlags → Survey S → List Event → Type 0
IsAtFault number flags v events = (s : Surveys number flags v events) × (is_refused s.since ≡ true → EndsFatal s.since)

-- from one state of the survey to the next, these events in place of those before
abbrev pub AddsEvents : {S : Type 0} → (S → ℕ) → Survey S → Survey S → (List Event → List Event) → Type 0
AddsEvents number old new after = (flags : LexFlags) (events : List Event) → IsCalm number flags old events → IsCalm number flags new (after events)

-- from one state of the survey to the next, the events of these rule lines more, of some of which `regex` refused the pattern
abbrev pub AddsRules : {S : Type 0} → (S → ℕ) → LexFlags → ℕ → Survey S → Survey S → List Line → Type 0
AddsRules number flags greatest old new lines =
    (refuses : ℕ → Bool) × ((asked : LexFlags) → resolved asked ≡ flags → (events : List Event) → IsCalm number flags old events
    → IsCalm number flags new (all_after (rule_events asked greatest refuses) events (map as_piece lines)))

-- these are the faults of these events, and each `RegexError` is why `regex` refused that very pattern
pub record IsToldBy (flags : LexFlags) (events : List Event) (told : List LexBuildError) : Type 0 where
  pub faults : map as_fault told ≡ part_faults events
  pub refusals : AreRefusals (config_of flags) (size_limit_of flags) (refused_patterns events) (regex_errors told)
