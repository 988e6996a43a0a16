-- What the message of a pattern that `regex` refuses ends with: the mistake that it usually comes of, and what to write.
use Rattle.std.specs.Prelude.{ℕ, Bool, false, not, ◌&&◌, ◌||◌, ◌==◌, if◌then◌else◌, List, [], ◌∷◌, slice_index, drop, codes}
use Rattle.std.specs.Char.{is_ascii_alphabetic}
use Rattle.std.specs.List.{list_all, list_any, before_first}
use Rattle.std.specs.Str.{byte}
use Rattle.lrlex_parser.specs.Escape.{ends_in_escape, is_backslash, is_one_of}
use Rattle.lrlex_parser.specs.RuleLine.{after_angles}
use Rattle.lrlex_parser.specs.Text.{begins_with, is_empty, trim_end}
use Rattle.lrlex_report.specs.ClassOperators.{has_class_operator}
use Rattle.lrlex_report.specs.FaultRanges.{before_blank, source_in}
use Rattle.lrlex_report.specs.Literals.{is_double}

-- the pattern of a rule's line, without its list of start states
abbrev pub pattern_of : (line : List ℕ) → List ℕ
pattern_of line = let source = source_in line in if begins_with (codes "<") source then after_angles source else source

-- of a line whose pattern ends in a backslash
abbrev pub escape_note : (line : List ℕ) → List ℕ
escape_note line =
    if ends_in_escape (before_blank (trim_end line))
    then codes ": the pattern ends in a backslash; write [ ] for a blank, \\\\ for a backslash" else []

-- behind a backslash, a character's number in braces begins, as `u{1F600}`
abbrev pub is_braced_number : ℕ → List ℕ → Bool
is_braced_number c rest = is_one_of (codes "xuU") c && (slice_index rest 0 == byte "{")

-- a pattern with such a number
abbrev pub has_braced_number : List ℕ → Bool
has_braced_number [] = false
has_braced_number (b ∷ []) = false
has_braced_number (b ∷ c ∷ rest) =
    if is_backslash b then is_braced_number c rest || has_braced_number rest else has_braced_number (c ∷ rest)

-- of a rule without a list, whose pattern has such a number: the backslash is dropped before `regex` reads it
abbrev pub number_note : (source : List ℕ) → List ℕ
number_note source =
    if not (begins_with (codes "<") source) && has_braced_number source
    then codes ": \\x{..} and \\u{..} lose their backslash in a rule without start states; write \\U0001F600, or <INITIAL>\\u{1F600}" else []

-- of a pattern with an operator within a class of characters
abbrev pub class_note : (pattern : List ℕ) → List ℕ
class_note pattern =
    if has_class_operator pattern
    then codes ": in a class [ begins another, and --, && and ~~ are operations on sets; write a backslash before the character, as \\[ or \\-" else []

-- a brace and a letter begin a name, at the front or behind neither a letter nor a backslash
abbrev pub begins_name : (before b c : ℕ) → Bool
begins_name before b c = (b == byte "{") && is_ascii_alphabetic c && not (is_ascii_alphabetic before || is_backslash before)

-- a pattern with a name in braces, as flex has it; `before` is the byte before it, or 0
abbrev pub has_braced_name : (before : ℕ) → List ℕ → Bool
has_braced_name before [] = false
has_braced_name before (b ∷ []) = false
has_braced_name before (b ∷ c ∷ rest) = begins_name before b c || has_braced_name b (c ∷ rest)

abbrev pub braces_note : (pattern : List ℕ) → List ℕ
braces_note pattern = if has_braced_name 0 pattern then codes ": a name in braces stands for no pattern; write the pattern in its place" else []

-- an operator of patterns, or a quote
abbrev pub is_operator : ℕ → Bool
is_operator c = is_one_of (codes "*+?{}()[]|^$\"") c

abbrev pub are_operators : (pattern : List ℕ) → Bool
are_operators pattern = list_all is_operator pattern

-- some operators, and nothing else
abbrev pub are_some_operators : List ℕ → Bool
are_some_operators text = not (is_empty text) && are_operators text

-- such are before the next quote
abbrev pub ends_operators : (rest : List ℕ) → Bool
ends_operators rest = list_any is_double rest && are_some_operators (before_first is_double rest)

-- the pattern begins with operators in quotes, as flex has them
abbrev pub quotes_operators : (pattern : List ℕ) → Bool
quotes_operators pattern = begins_with (codes "\"") pattern && ends_operators (drop 1 pattern)

abbrev pub quotes_note : (pattern : List ℕ) → List ℕ
quotes_note pattern =
    if quotes_operators pattern
    then codes ": the quotes are part of the pattern; leave them out, and write operators with a backslash, as \\(" else []

-- the pattern begins with an operator that repeats what is before it
abbrev pub repeats_nothing : (pattern : List ℕ) → Bool
repeats_nothing pattern =
    begins_with (codes "*") pattern || begins_with (codes "+") pattern || begins_with (codes "?") pattern || begins_with (codes "{") pattern

-- of a pattern that begins with such an operator, or is operators alone
abbrev pub operator_note : (pattern : List ℕ) → List ℕ
operator_note pattern =
    if repeats_nothing pattern || are_operators pattern
    then codes ": write a backslash before each operator to match its character, as \\+ or \\(" else []
