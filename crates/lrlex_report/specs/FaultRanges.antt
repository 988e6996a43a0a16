-- What an editor underlines of a fault: a part of a line, from the fault's place on.
use Rattle.std.specs.Prelude.{ℕ, ◌+◌, ◌-◌, List, [], ◌∷◌, length, take, drop, if◌then◌else◌}
use Rattle.std.specs.List.{list_any, before_first, before_last, position_or_len}
use Rattle.std.specs.Str.{chars, encode_utf8_all}
use Rattle.lrlex_base.specs.Classes.{is_blank, is_line_sep}
use Rattle.lrlex_base.specs.Spans.{Span, span, as_span, at_place}
use Rattle.lrlex_base.specs.declared.spans.Span.{Span as TheSpan}
use Rattle.lrlex_parser.specs.Declaration.{first_word}
use Rattle.lrlex_parser.specs.Escape.{first_char}
use Rattle.lrlex_parser.specs.LexBuildError.{fault_kind, fault_spans}
use Rattle.lrlex_parser.specs.RuleLine.{is_greater}
use Rattle.lrlex_parser.specs.Text.{is_empty, trim_end}
use Rattle.lrlex_parser.specs.declared.faults.LexErrorKind.{LexErrorKind}
use Rattle.lrlex_parser.specs.declared.faults.LexErrorKind.TheVariants.{UnknownStartState, DuplicateStartState, InvalidStartStateName, DuplicateName, RegexError, VerbatimNotSupported}
use Rattle.lrlex_parser.specs.declared.faults.LexBuildError.{LexBuildError}
use Rattle.lrlex_report.specs.PlaceTexts.{nearest}

-- the text up to the end of its first line, as rule files have lines
abbrev pub first_line : List ℕ → List ℕ
first_line text = encode_utf8_all (before_first is_line_sep (chars text))

-- its first bytes, so many, and no part of a character
abbrev pub first_bytes : (len : ℕ) → List ℕ → List ℕ
first_bytes len text = take (nearest text len) text

-- up to the first `>`, and with it
abbrev pub through_angle : List ℕ → List ℕ
through_angle text = take (position_or_len is_greater text + 1) text

-- the text before its last blank, or all of it without a blank
abbrev pub before_blank : List ℕ → List ℕ
before_blank text = if list_any is_blank text then before_last is_blank text else text

-- the pattern of a rule's line with its list of start states, before the blank that separates it from the name
abbrev pub source_in : (line : List ℕ) → List ℕ
source_in line = trim_end (before_blank (trim_end line))

-- what is wrong of the line that begins at the fault's place
abbrev pub wrong_part : LexErrorKind → (len : ℕ) → (line : List ℕ) → List ℕ
-- a name that is declared again, and code that begins with white space: what the fault's own span covers
wrong_part DuplicateStartState len line = first_bytes len line
wrong_part DuplicateName len line = first_bytes len line
wrong_part VerbatimNotSupported len line = first_bytes len line
-- a start state's name: the word
wrong_part InvalidStartStateName len line = first_word line
-- a start state that isn't declared: the list or the target in angles
wrong_part UnknownStartState len line = through_angle line
-- a pattern that `regex` refuses: it, with its list
wrong_part (RegexError e) len line = source_in line
-- a declaration, a rule, a rule's name, a section's mark: the rest of the line, without the white space at its end
wrong_part kind len line = trim_end line

-- at least one character of the line, if it has one
abbrev pub or_first_char : (line part : List ℕ) → List ℕ
or_first_char line part = if is_empty part then first_char line else part

-- the span at which a fault's message is shown: its only one, and of a duplicate the first at which the name is declared again
abbrev pub told_span : List TheSpan → Span
told_span [] = at_place 0
told_span (x ∷ []) = as_span x
told_span (x ∷ y ∷ ys) = as_span y

abbrev pub range_at : (rules : List ℕ) → LexErrorKind → Span → Span
range_at rules kind x =
    let at = nearest rules x.start in
    let line = first_line (drop at rules) in
    span at (at + length (or_first_char line (wrong_part kind (x.end - x.start) line)))

-- what an editor underlines of a fault
abbrev pub fault_range : (rules : List ℕ) → LexBuildError → Span
fault_range rules e = range_at rules (fault_kind e) (told_span (fault_spans e))
