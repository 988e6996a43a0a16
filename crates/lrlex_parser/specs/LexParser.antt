-- What contracts see of the types that parse a rule text.
use Rattle.std.specs.Prelude.{◌≡◌, ℕ, take, drop, codes, ◌+◌, ◌-◌, ◌≤◌, ◌<◌, ◌==◌, Bool, true, false, Option, List, [], ◌∷◌, ◌++◌, length, map, Vec, slice_index}
use Rattle.std.specs.Option.{option_map_or, option_copied}
use Rattle.std.specs.List.{slice_index_or, list_any}
use Rattle.std.specs.String.{string_bytes}
use Rattle.std.specs.declared.alloc.Global.{Global}
use Rattle.regex.specs.declared.error.Error.{Error}
use Rattle.lrlex_base.specs.Spans.{as_span}
use Rattle.lrlex_rules.specs.declared.flags.LexFlags.{LexFlags}
use Rattle.lrlex_parser.specs.declared.text.Line.{Line}
use Rattle.lrlex_parser.specs.declared.text.Margins.{Margins}
use Rattle.lrlex_parser.specs.declared.text.Margins.TheVariants as margins
use Rattle.lrlex_parser.specs.declared.fatal.Fatal.{Fatal}
use Rattle.lrlex_parser.specs.declared.names.States.{States}
use Rattle.lrlex_parser.specs.declared.rule_line.Label.{Label}
use Rattle.lrlex_parser.specs.declared.rule_line.Parts.{Parts}
use Rattle.lrlex_parser.specs.declared.rule_line.Pattern.{Pattern as ThePattern}
use Rattle.lrlex_parser.specs.declared.rule_line.Angles.{Angles}
use Rattle.lrlex_parser.specs.declared.rule_line.Angles.TheVariants as angles
use Rattle.lrlex_parser.specs.declared.lex_parser.LexParser.{LexParser}
use Rattle.lrlex_parser.specs.declared.lex_parser.RuleFile.{RuleFile}
use Rattle.lrlex_rules.specs.Definition.{StartState, Definition}
use Rattle.lrlex_rules.specs.RuleParts.{as_rule, as_state}
use Rattle.lrlex_rules.specs.Flags.{resolved, config_of, size_limit_of}
use Rattle.lrlex_parser.specs.Text.{Piece, piece, begins_with, trim}
use Rattle.lrlex_parser.specs.Event.{Fault, fault_at, Event, states_of, rules_of, is_refused, refused_patterns}
use Rattle.lrlex_parser.specs.Event.Event.{Refused}
use Rattle.lrlex_parser.specs.Declaration.{Declared, declared_by}
use Rattle.lrlex_parser.specs.RuleLine.{RuleLabel, LineParts, Pattern, is_greater, in_angles, after_angles}
use Rattle.lrlex_parser.specs.Outcome.{Settings, faults_after}
use Rattle.lrlex_parser.specs.LexErrorKind.{as_kind}
pub use Rattle.lrlex_parser.specs.LexErrorKind.{as_subject}
pub use Rattle.lrlex_parser.specs.LexBuildResult.{seen, as_fault, as_faults, first_start, refused_in, regex_error, kind_error, regex_errors, IsRefused, AreRefusals, settings, refused_by, IsAnswer, AreOwnRefusals}

-- ---- lines
abbrev pub as_piece : Line → Piece
as_piece l = piece l.at l.text.now

-- a line without the white space round it, or as it is
abbrev pub laid_out : Margins → Piece → Piece
laid_out margins.Trimmed x = trim x
laid_out margins.Kept x = x

-- where a line ends, and that each of these ends in a text that ends there
abbrev pub line_end : Line → ℕ
line_end line = line.at + length line.text.now

abbrev pub EndBy : ℕ → List Line → Type 0
EndBy end lines = (i : ℕ) (d : Line) → i < length lines → line_end (slice_index_or lines i d) ≤ end

-- no two lines begin at one place, and later ones begin further on
abbrev pub AreApart : List Line → Type 0
AreApart lines = (i j : ℕ) (d : Line) → i < j → j < length lines → (slice_index_or lines i d).at < (slice_index_or lines j d).at

-- the line is in a text that begins at this offset
pub record StandsIn (at : ℕ) (text : List ℕ) (line : Line) : Type 0 where
  pub from : at ≤ line.at
  pub to : line_end line ≤ at + length text
  pub is : take (length line.text.now) (drop (line.at - at) text) ≡ line.text.now

-- in a text that begins at this offset, the mark has two bytes, of which the second is a `%`
pub record MarkAt (at : ℕ) (text : List ℕ) (mark : Line) : Type 0 where
  pub from : at ≤ mark.at
  pub room : (mark.at - at) + 1 < length text
  pub percent : slice_index text ((mark.at - at) + 1) ≡ 37

-- ---- what a declaration line says, one name after another
abbrev pub declared_line : Line → List Declared
declared_line line = declared_by (as_piece line)

-- ---- the parts of a rule line
abbrev pub as_states : States → List StartState
as_states s = map as_state s.list.items

abbrev pub as_fatal : Fatal → Fault
as_fatal f = fault_at (as_kind f.kind) f.at

abbrev pub as_label : Label → RuleLabel
as_label l = record { name = option_copied l.name; span = as_span l.span }

abbrev pub as_parts : Parts → LineParts
as_parts p = record { head = p.head.now; target = p.target; label = as_label p.label }

abbrev pub as_pattern : ThePattern → Pattern
as_pattern p = record { start_states = p.start_states.items; text = string_bytes p.text }

-- `<..>` at the front of a text
abbrev pub HasAngles : List ℕ → Angles → Type 0
HasAngles text angles.Absent = begins_with (codes "<") text ≡ false
HasAngles text angles.Open = (begins_with (codes "<") text ≡ true) × (list_any is_greater text ≡ false)
HasAngles text (angles.Closed inside after) = (begins_with (codes "<") text ≡ true) × (list_any is_greater text ≡ true) × (inside.now ≡ in_angles text) × (after.now ≡ after_angles text)

abbrev pub items_of : Vec ℕ Global → List ℕ
items_of v = v.items

-- ---- faults
-- whether that is this place
abbrev pub hits : Option ℕ → ℕ → Bool
hits refused o = option_map_or (λ (x : ℕ). x == o) refused false

-- up to this line, the two name the same lines
abbrev pub HitAlike : Option ℕ → Option ℕ → List Line → ℕ → Type 0
HitAlike r r' lines i = (j : ℕ) (d : Line) → j < i → hits r (slice_index_or lines j d).at ≡ hits r' (slice_index_or lines j d).at

-- ---- what was parsed so far
abbrev pub refused_of : {S : Type 0} → LexParser S → Option ℕ
refused_of b = refused_in (map as_fault b.faults.list.items)

-- the parser has what these events say, where `number` gives the number that an id stands for
pub record Represents {S : Type 0} (number : S → ℕ) (flags : LexFlags) (b : LexParser S) (events : List Event) : Type 0 where
  pub states : as_states b.states ≡ states_of events
  pub rules : map (as_rule number) b.rules.list.items ≡ rules_of events
  pub faults : map as_fault b.faults.list.items ≡ faults_after [] events
  pub refused : b.is_refused ≡ is_refused events
  pub refusals : AreRefusals (config_of flags) (size_limit_of flags) (refused_patterns events) (regex_errors b.faults.list.items)

-- from one state of the parser to the next, one event more
abbrev pub Adds : {S : Type 0} → (S → ℕ) → LexParser S → LexParser S → (List Event → Event) → Type 0
Adds number old new event = (flags : LexFlags) (events : List Event) → Represents number flags old events → Represents number flags new (events ++ event events ∷ [])

-- from one state of the parser to the next, the event of a pattern that `regex` refused at this place
abbrev pub AddsRefused : {S : Type 0} → (S → ℕ) → LexParser S → LexParser S → Error → ℕ → Type 0
AddsRefused number old new error at =
    (flags : LexFlags) (pattern : List ℕ) → IsRefused (config_of flags) (size_limit_of flags) pattern error → (events : List Event) → Represents number flags old events → Represents number flags new (events ++ Refused at pattern ∷ [])

-- from one state of the parser to the next, these events in place of those before
abbrev pub Reads : {S : Type 0} → (S → ℕ) → LexParser S → LexParser S → (List Event → List Event) → Type 0
Reads number old new after = (flags : LexFlags) (events : List Event) → Represents number flags old events → Represents number flags new (after events)

-- settings with these flags, which are resolved, and this greatest id
pub record Suits (s : Settings) (flags : LexFlags) (greatest : ℕ) : Type 0 where
  pub flags_are : resolved s.flags ≡ flags
  pub greatest_is : s.greatest_id ≡ greatest

-- from one state of the parser to the next, one event more, which depends on the settings. They say whether `regex` refused the pattern at this place.
abbrev pub AddsLine : {S : Type 0} → (S → ℕ) → LexFlags → ℕ → LexParser S → LexParser S → ℕ → (Settings → List Event → Event) → Type 0
AddsLine number flags greatest old new o event =
    (s : Settings) → Suits s flags greatest → (events : List Event) → Represents number flags old events → hits s.refused o ≡ hits (refused_of new) o → Represents number flags new (events ++ event s events ∷ [])

-- from one state of the parser to the next, these events in place of those before, which depend on the settings. They say which pattern `regex` refused, if it did.
abbrev pub ReadsLines : {S : Type 0} → (S → ℕ) → LexFlags → ℕ → LexParser S → LexParser S → (Settings → List Event → List Event) → Type 0
ReadsLines number flags greatest old new after =
    (s : Settings) → Suits s flags greatest → (events : List Event) → Represents number flags old events → s.refused ≡ refused_of new → Represents number flags new (after s events)

-- ---- the answer
abbrev pub as_definition : {S : Type 0} → (S → ℕ) → RuleFile S → Definition
as_definition number d = record { states = map as_state d.states.items; rules = map (as_rule number) d.rules.items; flags = d.flags }
