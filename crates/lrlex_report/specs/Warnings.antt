-- What a rule text says and its author hardly meant: each kind of warning is a test of a rule or of a start state.
use Rattle.std.specs.Prelude.{◌≡◌, ◌<◌, ℕ, suc, zero, ◌+◌, ◌-◌, max, ◌==◌, Bool, true, false, not, ◌&&◌, ◌||◌, if◌then◌else◌, Option, Some, None, is_none, option_map, List, [], ◌∷◌, ◌++◌, length, take, drop, slice_get, slice_index, flat_map, codes}
use Rattle.std.specs.Char.{is_ascii_alphabetic}
use Rattle.std.specs.List.{list_all, list_any, slice_index_or, after_first, before_first, before_last, after_last}
use Rattle.std.specs.Str.{chars, byte, encode_utf8_all}
use Rattle.lrlex_base.specs.Classes.{is_line_sep}
use Rattle.lrlex_base.specs.Spans.{Span, span, as_span, Fits}
use Rattle.lrlex_rules.specs.Definition.{Definition, Rule}
use Rattle.lrlex_rules.specs.declared.states.StartState.{StartState}
use Rattle.lrlex_parser.specs.Escape.{is_backslash, begins_escape}
use Rattle.lrlex_parser.specs.RuleLine.{target_name}
use Rattle.lrlex_rules.specs.RuleParts.{RuleParts, as_rule, as_state}
use Rattle.lrlex_parser.specs.Text.{is_empty, begins_with, same_text, trim_end, drop_trailing}
use Rattle.lrlex_rules.specs.Active.{active_places, is_state, lists_none}
use Rattle.lrlex_definition.specs.Never.{NeverWinsAnywhere, WinsAtNoRow, enters, is_active_somewhere, is_asked_somewhere}
use Rattle.lrlex_definition.specs.RuleTable.{definition_by}
use Rattle.lrlex_definition.specs.declared.rule_table.RuleTable.{RuleTable}
use Rattle.lrlex_report.specs.Alternatives.{loses_part}
use Rattle.lrlex_report.specs.ClassNames.{has_unknown_class}
use Rattle.lrlex_report.specs.ClassOperators.{has_class_operator}
use Rattle.lrlex_report.specs.Dots.{begins_with_flags, has_greedy_dot}
use Rattle.lrlex_report.specs.FaultRanges.{before_blank}
use Rattle.lrlex_report.specs.Literals.{ends_in_name, has_quoted_part, is_bare, is_quoted}
use Rattle.lrlex_report.specs.Looks.{looks_around}
use Rattle.lrlex_report.specs.PlaceTexts.{nearest}
use Rattle.lrlex_report.specs.declared.warnings.kinds.WarningKind.{WarningKind}
use Rattle.lrlex_report.specs.declared.warnings.kinds.WarningKind.TheVariants.{NeverWins, NeverActive, LooksAround, NoTable, TargetInPattern, BlankAfterStates, LostEscape, EscapeAfterStates, LostAlternative, NameInPattern, QuotedPattern, BareOperator, LostCaret, GreedyDot, ClassOperator, UnknownClass, NeverEntered, NoRules}
use Rattle.lrlex_report.specs.declared.warnings.kinds.Warning.{Warning}
use Rattle.lrlex_report.specs.declared.warnings.answers.Answers.{Answers}
use Rattle.lrlex_report.specs.declared.warnings.answers.Facts.{Facts}

-- what a warning says: its kind, and where
abbrev pub as_told : Warning → WarningKind × Span
as_told w = (w.kind, as_span w.span)

-- its span is in the text, between characters
abbrev pub SpanFits : List ℕ → Warning → Type 0
SpanFits text w = Fits text w.span

-- one warning, where it holds
abbrev pub when : Bool → WarningKind → Span → List (WarningKind × Span)
when holds kind x = if holds then (kind, x) ∷ [] else []

-- the warnings of these tests that hold, all at one place
abbrev pub those_that_hold : Span → List (WarningKind × Bool) → List (WarningKind × Span)
those_that_hold x tests = flat_map (λ (t : WarningKind × Bool). when t.1 t.0 x) tests

-- ---- a rule's pattern as the text has it, with its list of start states: from the line's beginning up to the blank before the name
-- the text up to its last line separator, and with it
abbrev pub whole_lines_of : List ℕ → List ℕ
whole_lines_of text = encode_utf8_all (drop_trailing (λ c. not (is_line_sep c)) (chars text))

abbrev pub front_of : (rules : List ℕ) → (name : ℕ) → List ℕ
front_of rules name = take (nearest rules name) rules

abbrev pub line_start : (rules : List ℕ) → (name : ℕ) → ℕ
line_start rules name = length (whole_lines_of (front_of rules name))

abbrev pub source_of : (rules : List ℕ) → (name : ℕ) → List ℕ
source_of rules name = trim_end (before_blank (drop (line_start rules name) (front_of rules name)))

abbrev pub source_span : (rules : List ℕ) → (name : ℕ) → Span
source_span rules name = span (line_start rules name) (line_start rules name + length (source_of rules name))

-- ---- tests of a rule
-- a start state has this name
abbrev pub is_state_name_of : List StartState → List ℕ → Bool
is_state_name_of states name = list_any (λ s. same_text (as_state s).name name) states

-- the text's last byte is this
abbrev pub ends_in : ℕ → List ℕ → Bool
ends_in b text = not (is_empty text) && (slice_index text (length text - 1) == b)

-- there is a text, and it doesn't end in a backslash
abbrev pub goes_on : List ℕ → Bool
goes_on front = not (is_empty front) && not (ends_in (byte "\\") front)

abbrev pub is_less : ℕ → Bool
is_less c = c == byte "<"

-- `T>`, `+T>` or `-T>` of a start state T
abbrev pub is_target_of : List StartState → List ℕ → Bool
is_target_of states part = ends_in (byte ">") part && is_state_name_of states (target_name (take (length part - 1) part))

-- the pattern ends in such a target, behind a `<` that doesn't begin it and has no backslash
abbrev pub ends_in_target : List StartState → (source : List ℕ) → Bool
ends_in_target states source =
    list_any is_less source && goes_on (before_last is_less source) && is_target_of states (after_last is_less source)

-- the pattern begins with a blank
abbrev pub begins_blank : List ℕ → Bool
begins_blank pattern = begins_with (codes " ") pattern || begins_with (codes "\t") pattern

-- Without a list, a backslash is lost before a letter that begins no escape. After a list, `\<` and `\>` are no characters:
-- to `regex` they are the beginning and the end of a word.
abbrev pub is_unmeant : (listed : Bool) → ℕ → List ℕ → Bool
is_unmeant true c rest = (c == byte "<") || (c == byte ">")
is_unmeant false c rest = is_ascii_alphabetic c && not (c == byte "b") && not (begins_escape c rest)

-- the pattern has such an escape
abbrev pub has_unmeant : (listed : Bool) → List ℕ → Bool
has_unmeant listed [] = false
has_unmeant listed (b ∷ []) = false
has_unmeant listed (b ∷ c ∷ rest) =
    if is_backslash b then is_unmeant listed c rest || has_unmeant listed rest else has_unmeant listed (c ∷ rest)

-- a pattern without the group that it is, `(..)`, `(?:..)` or one with flags, as `(?i:..)`, if it is one
abbrev pub is_colon : ℕ → Bool
is_colon c = c == byte ":"

abbrev pub is_flag : ℕ → Bool
is_flag c = is_ascii_alphabetic c || (c == byte "-")

abbrev pub are_flags : List ℕ → Bool
are_flags flags = list_all is_flag flags

abbrev pub after_flags : (inside : List ℕ) → (rest : List ℕ) → List ℕ
after_flags inside rest =
    if list_any is_colon rest && are_flags (before_first is_colon rest) then after_first is_colon rest else inside

abbrev pub in_group : List ℕ → List ℕ
in_group inside = if begins_with (codes "?") inside then after_flags inside (drop 1 inside) else inside

abbrev pub ungrouped : List ℕ → List ℕ
ungrouped pattern =
    let rest = drop 1 pattern in
    if begins_with (codes "(") pattern && ends_in (byte ")") rest then in_group (take (length rest - 1) rest) else pattern

-- it is active, and never wins
abbrev pub never_wins : Facts → Bool
never_wins known = known.is_active && not known.may_win

-- it has no table, since its pattern looks at what is beside the match
abbrev pub has_no_table_but_looks : Facts → Rule → Bool
has_no_table_but_looks known r = known.is_asked && looks_around r.re_str

-- it has no table, and not for that
abbrev pub has_no_table : Facts → Rule → Bool
has_no_table known r = known.is_asked && not (looks_around r.re_str)

-- it lists start states, and its pattern begins with a blank that counts
abbrev pub has_blank_after_states : Rule → Bool
has_blank_after_states r = not (lists_none r) && begins_blank r.re_str && not r.config.flags.ignore_whitespace

abbrev pub loses_escape : (source : List ℕ) → Rule → Bool
loses_escape source r = lists_none r && has_unmeant false source

abbrev pub has_escape_after_states : Rule → Bool
has_escape_after_states r = not (lists_none r) && has_unmeant true r.re_str

-- its first alternative has no byte: such a pattern matches none
abbrev pub begins_empty : (pattern : List ℕ) → Bool
begins_empty pattern = begins_with (codes "|") pattern

-- it is what a group has behind its `(`, with the group's name, as `?P<n>a`
abbrev pub begins_named : (pattern : List ℕ) → Bool
begins_named pattern = begins_with (codes "?") pattern

-- an alternative of its pattern, which may be one group without a name, begins with an earlier one
abbrev pub loses_alternative : Rule → Bool
loses_alternative r =
    let pattern = ungrouped r.re_str in not (begins_empty pattern) && not (begins_named pattern) && loses_part pattern

-- it has no name, and its pattern ends in one
abbrev pub has_name_in_pattern : Rule → Bool
has_name_in_pattern r = is_none r.name && ends_in_name r.re_str

-- a part of its pattern as it is written is in quotes, and it doesn't end in a name; without a list, the pattern has lost the
-- backslashes before quotes
abbrev pub quotes_part : (source : List ℕ) → Rule → Bool
quotes_part source r =
    not (has_name_in_pattern r) && (if lists_none r then has_quoted_part source else has_quoted_part r.re_str)

abbrev pub quotes_text : (source : List ℕ) → Rule → Bool
quotes_text source r = is_quoted r.re_str || quotes_part source r

-- its pattern begins with `^`, and goes on
abbrev pub loses_caret : Rule → Bool
loses_caret r = begins_with (codes "^") r.re_str && not (is_bare r.re_str)

-- its pattern has a dot that takes all that follows, newlines too, and no flags of its own at the beginning
abbrev pub takes_all : Rule → Bool
takes_all r =
    r.config.flags.dot_matches_new_line && (not r.config.flags.swap_greed
    && (not (begins_with_flags r.re_str) && has_greedy_dot r.re_str))

-- the tests of a rule of which this is known, and what they answer
abbrev pub rule_tests : Facts → List StartState → (source : List ℕ) → Rule → List (WarningKind × Bool)
rule_tests known states source r =
    (NeverWins, never_wins known)
    ∷ (NeverActive, not known.is_active)
    ∷ (LooksAround, has_no_table_but_looks known r)
    ∷ (NoTable, has_no_table known r)
    ∷ (TargetInPattern, ends_in_target states source)
    ∷ (BlankAfterStates, has_blank_after_states r)
    ∷ (LostEscape, loses_escape source r)
    ∷ (EscapeAfterStates, has_escape_after_states r)
    ∷ (LostAlternative, loses_alternative r)
    ∷ (NameInPattern, has_name_in_pattern r)
    ∷ (QuotedPattern, quotes_text source r)
    ∷ (BareOperator, is_bare r.re_str)
    ∷ (LostCaret, loses_caret r)
    ∷ (GreedyDot, takes_all r)
    ∷ (ClassOperator, has_class_operator r.re_str)
    ∷ (UnknownClass, has_unknown_class r.re_str)
    ∷ []

-- the warnings of the rule, at its pattern
abbrev pub rule_warnings : Facts → List StartState → (rules : List ℕ) → Rule → List (WarningKind × Span)
rule_warnings known states rules r =
    let name = r.name_span.start in those_that_hold (source_span rules name) (rule_tests known states (source_of rules name) r)

-- ---- tests of a start state
-- no rule enters it; lexing begins in the state with the id 0
abbrev pub is_entered : {S : Type 0} → (S → ℕ) → List (RuleParts S) → ℕ → Bool
is_entered number rules q = list_any (λ r. enters q (as_rule number r)) rules

abbrev pub is_never_entered : {S : Type 0} → (S → ℕ) → List (RuleParts S) → ℕ → Bool
is_never_entered number rules q = not (q == 0) && not (is_entered number rules q)

-- no rule is active in the state with this id, or no state has it
abbrev pub has_no_rules : Definition → ℕ → Bool
has_no_rules d q = not (is_state d q) || is_empty (active_places d.states d.rules q)

-- the tests of a start state, and what they answer
abbrev pub state_tests : {S : Type 0} → (S → ℕ) → RuleTable S → ℕ → List (WarningKind × Bool)
state_tests number t q =
    (NeverEntered, is_never_entered number t.rules.items q) ∷ (NoRules, has_no_rules (definition_by number t) q) ∷ []

-- the nearest part of a text
abbrev pub near_span : (rules : List ℕ) → Span → Span
near_span rules x = span (nearest rules x.start) (max (nearest rules x.start) (nearest rules x.end))

-- the warnings of a start state, at its name
abbrev pub state_warnings : {S : Type 0} → (S → ℕ) → RuleTable S → (rules : List ℕ) → StartState → List (WarningKind × Span)
state_warnings number t rules s = those_that_hold (near_span rules (as_state s).name_span) (state_tests number t (as_state s).id)

-- ---- all warnings
-- what a definition answers of its rules, by their places
pub record Answered : Type 0 where
  pub may_win : List Bool
  pub is_active : List Bool
  pub is_asked : List Bool

abbrev pub as_answered : Answers → Answered
as_answered a = record { may_win = a.may_win.items; is_active = a.is_active.items; is_asked = a.is_asked.items }

-- These are its answers. `may_win` is false only of a rule that never wins, and of each that wins at no row of its tables.
pub record AreAnswers {S : Type 0} (number : S → ℕ) (t : RuleTable S) (a : Answered) : Type 0 where
  pub never : (k : ℕ) → slice_index_or a.may_win k true ≡ false → NeverWinsAnywhere (definition_by number t) k
  pub struck : (k : ℕ) → WinsAtNoRow t k → slice_index_or a.may_win k false ≡ false
  pub each : length a.may_win ≡ length t.rules.items
  pub active : (k : ℕ) → k < length t.rules.items → slice_index_or a.is_active k false ≡ is_active_somewhere (definition_by number t) k
  pub asked : (k : ℕ) → k < length t.rules.items → slice_index_or a.is_asked k false ≡ is_asked_somewhere t k

-- what is known of the rule at a place
abbrev pub known_of : Answered → ℕ → Facts
known_of a k = record {
  may_win = slice_index_or a.may_win k false;
  is_active = slice_index_or a.is_active k false;
  is_asked = slice_index_or a.is_asked k false;
}

abbrev pub warnings_if : Facts → List StartState → (rules : List ℕ) → Option Rule → List (WarningKind × Span)
warnings_if known states rules None = []
warnings_if known states rules (Some r) = rule_warnings known states rules r

abbrev pub warnings_at : {S : Type 0} → (S → ℕ) → RuleTable S → Answered → (rules : List ℕ) → ℕ → List (WarningKind × Span)
warnings_at number t a rules k =
    warnings_if (known_of a k) t.start_states.items rules (option_map (as_rule number) (slice_get t.rules.items k))

-- those of the first so many places
abbrev pub up_to : (ℕ → List (WarningKind × Span)) → ℕ → List (WarningKind × Span)
up_to at zero = []
up_to at (suc n) = up_to at n ++ at n

-- of each start state
abbrev pub states_warnings : {S : Type 0} → (S → ℕ) → RuleTable S → (rules : List ℕ) → List (WarningKind × Span)
states_warnings number t rules = flat_map (state_warnings number t rules) t.start_states.items

-- of each rule
abbrev pub rules_warnings : {S : Type 0} → (S → ℕ) → RuleTable S → Answered → (rules : List ℕ) → List (WarningKind × Span)
rules_warnings number t a rules = up_to (warnings_at number t a rules) (length t.rules.items)

-- these are the warnings of a rule text and its definition: of each start state, then of each rule, in order
abbrev pub AreWarnings : {S : Type 0} → (S → ℕ) → RuleTable S → (rules : List ℕ) → List (WarningKind × Span) → Type 0
AreWarnings number t rules told =
    (a : Answered) × AreAnswers number t a × (told ≡ states_warnings number t rules ++ rules_warnings number t a rules)
