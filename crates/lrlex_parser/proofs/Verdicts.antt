-- What the event of a rule line has of whether `regex` refuses its pattern.
use Rattle.std.proofs.Common.{◌≡◌, ◌⊎◌, ℕ, Bool, true, false, List, Option, Some, None, Result, Ok, Err, refl, sym, ap, subst, inl, inr, ⊎_elim, ◌∙◌}
use Rattle.std.specs.Prelude.{if◌then◌else◌, nat_lt, length}
use Rattle.lrlex_rules.specs.declared.flags.LexFlags.{LexFlags}
use Rattle.lrlex_rules.specs.Flags.{has_posix_escapes, config_of}
use Rattle.lrlex_parser.specs.Text.{Piece}
use Rattle.lrlex_parser.specs.Escape.{trim_head}
use Rattle.lrlex_rules.specs.Definition.{Rule}
use Rattle.lrlex_parser.specs.Event.{Fault, fault_at, span_of, Event, is_fatal, states_of, rules_of}
use Rattle.lrlex_parser.specs.Event.Event.{NewRule, Verbatim, Refused, Fatal}
use Rattle.lrlex_parser.specs.Event.FaultKind.{TooManyRules}
use Rattle.lrlex_parser.specs.RuleLine.{LineParts, Pattern, split, read_pattern}
use Rattle.lrlex_parser.specs.Outcome.{Settings, rule_with_name, rule_event, pattern_event, parts_event, split_event, is_verbatim, line_event}
use Rattle.lrlex_parser.specs.LexParser.{hits}

abbrev pub by : LexFlags → ℕ → Option ℕ → Settings
by flags greatest r = record { flags = flags; greatest_id = greatest; refused = r }

abbrev pub is_refusal : Event → Bool
is_refusal (Refused at p) = true
is_refusal _ = false

-- two events are one, or the first is a refused pattern where the second is a rule
abbrev Apart : Event → Event → Type 0
Apart x y = (x ≡ y) ⊎ ((is_refusal x ≡ true) × (is_fatal y ≡ false))

module _ (flags : LexFlags) (greatest : ℕ) (r r' : Option ℕ) (o : ℕ) where
  -- the same answer makes the same event
  same_rule : hits r o ≡ hits r' o → (rules : List Rule) (parts : LineParts) (pattern : Pattern) → rule_event (by flags greatest r) rules o parts pattern ≡ rule_event (by flags greatest r') rules o parts pattern
  same_rule h rules parts pattern =
      ap (λ (b : Bool). if nat_lt greatest (length rules) then Fatal (fault_at TooManyRules o)
      else (if b then Refused o pattern.text
      else NewRule (record { id = Some (length rules); name = parts.label.name; name_span = parts.label.span; re_str = pattern.text; start_states = pattern.start_states; target = parts.target; config = config_of flags }))) h

  same_pattern : hits r o ≡ hits r' o → (rules : List Rule) (parts : LineParts) (p : Result Pattern Fault) → pattern_event (by flags greatest r) rules o parts p ≡ pattern_event (by flags greatest r') rules o parts p
  same_pattern h rules parts (Ok pattern) = same_rule h rules parts pattern
  same_pattern h rules parts (Err f) = refl

  same_parts : hits r o ≡ hits r' o → (es : List Event) (parts : LineParts) (original : Option Rule) → parts_event (by flags greatest r) es o parts original ≡ parts_event (by flags greatest r') es o parts original
  same_parts h es parts (Some original) = refl
  same_parts h es parts None = same_pattern h (rules_of es) parts (read_pattern (has_posix_escapes flags) (states_of es) o (trim_head parts.head))

  same_split : hits r o ≡ hits r' o → (es : List Event) (p : Result LineParts Fault) → split_event (by flags greatest r) es o p ≡ split_event (by flags greatest r') es o p
  same_split h es (Err f) = refl
  same_split h es (Ok parts) = same_parts h es parts (rule_with_name (rules_of es) parts.label.name)

  -- two answers make one event, or a refused pattern where there was a rule
  apart_if : (m h' : Bool) (f refused rule : Event) → is_refusal refused ≡ true → is_fatal rule ≡ false → Apart (if m then f else refused) (if m then f else (if h' then refused else rule))
  apart_if true h' f refused rule a b = inl refl
  apart_if false true f refused rule a b = inl refl
  apart_if false false f refused rule a b = inr (a, b)

  apart_rule : hits r o ≡ true → (rules : List Rule) (parts : LineParts) (pattern : Pattern) → Apart (rule_event (by flags greatest r) rules o parts pattern) (rule_event (by flags greatest r') rules o parts pattern)
  apart_rule h rules parts pattern =
      let rule : Event = NewRule (record { id = Some (length rules); name = parts.label.name; name_span = parts.label.span; re_str = pattern.text; start_states = pattern.start_states; target = parts.target; config = config_of flags }) in
      let all : Event → Type 0 = λ x. Apart (if nat_lt greatest (length rules) then Fatal (fault_at TooManyRules o) else x) (if nat_lt greatest (length rules) then Fatal (fault_at TooManyRules o) else (if hits r' o then Refused o pattern.text else rule)) in
      let is : (if hits r o then Refused o pattern.text else rule) ≡ Refused o pattern.text = rw h refl in
      subst all (sym is) (apart_if (nat_lt greatest (length rules)) (hits r' o) (Fatal (fault_at TooManyRules o)) (Refused o pattern.text) rule refl refl)

  apart_pattern : hits r o ≡ true → (rules : List Rule) (parts : LineParts) (p : Result Pattern Fault) → Apart (pattern_event (by flags greatest r) rules o parts p) (pattern_event (by flags greatest r') rules o parts p)
  apart_pattern h rules parts (Ok pattern) = apart_rule h rules parts pattern
  apart_pattern h rules parts (Err f) = inl refl

  apart_parts : hits r o ≡ true → (es : List Event) (parts : LineParts) (original : Option Rule) → Apart (parts_event (by flags greatest r) es o parts original) (parts_event (by flags greatest r') es o parts original)
  apart_parts h es parts (Some original) = inl refl
  apart_parts h es parts None = apart_pattern h (rules_of es) parts (read_pattern (has_posix_escapes flags) (states_of es) o (trim_head parts.head))

  apart_split : hits r o ≡ true → (es : List Event) (p : Result LineParts Fault) → Apart (split_event (by flags greatest r) es o p) (split_event (by flags greatest r') es o p)
  apart_split h es (Err f) = inl refl
  apart_split h es (Ok parts) = apart_parts h es parts (rule_with_name (rules_of es) parts.label.name)

apart_line : (b : Bool) (v x y : Event) → Apart x y → Apart (if b then v else x) (if b then v else y)
apart_line true v x y h = inl refl
apart_line false v x y h = h

pub line_same : (flags : LexFlags) (greatest : ℕ) (r r' : Option ℕ) (es : List Event) (line : Piece) → hits r line.at ≡ hits r' line.at → line_event (by flags greatest r) es line ≡ line_event (by flags greatest r') es line
line_same flags greatest r r' es line h =
    ap (λ (x : Event). if is_verbatim line then Verbatim (span_of line) else x) (same_split flags greatest r r' line.at h es (split (states_of es) line))

line_apart : (flags : LexFlags) (greatest : ℕ) (r r' : Option ℕ) (es : List Event) (line : Piece) → hits r line.at ≡ true → Apart (line_event (by flags greatest r) es line) (line_event (by flags greatest r') es line)
line_apart flags greatest r r' es line h =
    apart_line (is_verbatim line) (Verbatim (span_of line)) (split_event (by flags greatest r) es line.at (split (states_of es) line)) (split_event (by flags greatest r') es line.at (split (states_of es) line))
    (apart_split flags greatest r r' line.at h es (split (states_of es) line))

-- an event that is no refused pattern stays where `regex` refuses none there
pub stays : (flags : LexFlags) (greatest : ℕ) (r r' : Option ℕ) (es : List Event) (line : Piece) (b : Bool) → hits r line.at ≡ b → hits r' line.at ≡ false → is_refusal (line_event (by flags greatest r) es line) ≡ false
    → line_event (by flags greatest r') es line ≡ line_event (by flags greatest r) es line
stays flags greatest r r' es line false h k n = line_same flags greatest r' r es line (k ∙ sym h)
stays flags greatest r r' es line true h k n =
    ⊎_elim sym (λ two. let no : true ≡ false = sym two.0 ∙ n in cc) (line_apart flags greatest r r' es line h)

-- a refused pattern, or another fatal fault, stays where `regex` refuses the pattern there
pub stays_fatal : (flags : LexFlags) (greatest : ℕ) (r r' : Option ℕ) (es : List Event) (line : Piece) (b : Bool) → hits r line.at ≡ b → hits r' line.at ≡ true → is_fatal (line_event (by flags greatest r) es line) ≡ true
    → line_event (by flags greatest r') es line ≡ line_event (by flags greatest r) es line
stays_fatal flags greatest r r' es line true h k n = line_same flags greatest r' r es line (k ∙ sym h)
stays_fatal flags greatest r r' es line false h k n =
    ⊎_elim (λ e. e) (λ two. let no : true ≡ false = sym n ∙ two.1 in cc) (line_apart flags greatest r' r es line k)
