-- Patterns that are meant literally: a text in quotes, also as a part, and operators alone.
use Rattle.std.specs.Prelude.{ℕ, Bool, false, not, ◌&&◌, ◌+◌, ◌-◌, ◌==◌, nat_lt, Option, Some, None, List, [], ◌∷◌, length, slice_index, take, drop, codes}
use Rattle.std.specs.List.{list_all, list_any, position}
use Rattle.std.specs.Str.{byte}
use Rattle.lrlex_parser.specs.Escape.{is_one_of}
use Rattle.lrlex_parser.specs.Text.{is_empty}
use Rattle.lrlex_report.specs.FaultRanges.{before_blank}
use Rattle.lrlex_report.specs.PatternClasses.{at_beginning, from_first}
use Rattle.lrlex_report.specs.declared.warnings.pattern_classes.Context.{Context}

abbrev pub is_quote : ℕ → Bool
is_quote c = is_one_of (codes "\"'") c

-- a quote, or a byte by which a pattern matches more than one text
abbrev pub is_varied : ℕ → Bool
is_varied c = is_one_of (codes "\"'\\.[") c

abbrev pub varies : (inside : List ℕ) → Bool
varies inside = list_any is_varied inside

-- what is between quotes is a text
abbrev pub is_literal : (inside : List ℕ) → Bool
is_literal inside = not (is_empty inside) && not (varies inside)

-- a pattern that is a text in quotes
abbrev pub is_quoted : (pattern : List ℕ) → Bool
is_quoted [] = false
is_quoted (q ∷ rest) =
    is_quote q && (slice_index rest (length rest - 1) == q) && is_literal (take (length rest - 1) rest)

-- a double quote outside classes of characters, which no backslash precedes
abbrev pub is_double : ℕ → Bool
is_double c = c == byte "\""

abbrev pub is_mark : Context → List ℕ → Bool
is_mark x text = (x.classes == 0) && is_double (slice_index text 0)

-- The next quote is at this place. Before it is a text, and no quote follows it: a pattern for texts in quotes may have two in a row.
abbrev pub ends_text_at : (rest : List ℕ) → Option ℕ → Bool
ends_text_at rest None = false
ends_text_at rest (Some end) = is_literal (take end rest) && not (is_double (slice_index (drop (end + 1) rest) 0))

-- behind such a quote there is a text, and then one quote alone
abbrev pub ends_text : (rest : List ℕ) → Bool
ends_text rest = ends_text_at rest (position is_double rest)

-- a pattern with a part in quotes, as `"0x"[0-9a-f]+`; its first quote decides, since a pattern for texts in quotes has others
abbrev pub has_quoted_part : (pattern : List ℕ) → Bool
has_quoted_part pattern = ends_text (drop 1 (from_first is_mark at_beginning pattern))

-- a pattern whose last word is a text in quotes, as a name is
abbrev pub ends_in_name : (pattern : List ℕ) → Bool
ends_in_name pattern =
    let front = length (before_blank pattern) in nat_lt front (length pattern) && is_quoted (drop (front + 1) pattern)

-- an operator that matches no byte
abbrev pub is_bare_operator : ℕ → Bool
is_bare_operator c = is_one_of (codes "|^$") c

abbrev pub are_bare_operators : (pattern : List ℕ) → Bool
are_bare_operators pattern = list_all is_bare_operator pattern

-- a pattern of these alone
abbrev pub is_bare : (pattern : List ℕ) → Bool
is_bare pattern = not (is_empty pattern) && are_bare_operators pattern
