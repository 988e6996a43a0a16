-- Which name of a list of start states a rule text doesn't declare.
use Rattle.std.specs.Prelude.{ℕ, Bool, true, not, ◌&&◌, ◌||◌, ◌==◌, nat_le, if◌then◌else◌, List, [], ◌∷◌, count_by, drop, codes}
use Rattle.std.specs.List.{list_any, before_first}
use Rattle.std.specs.Str.{byte}
use Rattle.lrlex_base.specs.Classes.{is_white_space}
use Rattle.lrlex_parser.specs.Declaration.{ends_section}
use Rattle.lrlex_parser.specs.RuleLine.{is_greater, listed_names}
use Rattle.lrlex_parser.specs.Text.{Piece, piece, cut, begins_with, is_empty, same_text, trim_text}
use Rattle.lrlex_report.specs.FaultRanges.{first_bytes}
use Rattle.lrlex_report.specs.Notes.{begins_list, line_from}

-- the name is one of these words, and none before it begins with `%%`; or none at all begins so
abbrev pub declares : (name : List ℕ) → List Piece → Bool
declares name [] = true
declares name (word ∷ words) = not (ends_section word.text) && (same_text word.text name || declares name words)

-- it is `INITIAL`, or a word of the text's declarations, if these end within the first 2,048 bytes; else each name counts as declared,
-- so that a look-up reads no more than these bytes
abbrev pub is_declared : (rules name : List ℕ) → Bool
is_declared rules name = same_text name (codes "INITIAL") || declares name (cut is_white_space (piece 0 (first_bytes 2048 rules)))

-- the first of these names, without the white space around them, that isn't declared
abbrev pub undeclared : (rules : List ℕ) → List (List ℕ) → List ℕ
undeclared rules [] = []
undeclared rules (name ∷ names) =
    if is_declared rules (trim_text name) then undeclared rules names else trim_text name

-- the names in the list of start states that begins a line, if there are 2 to 8
abbrev pub before_angle : (line : List ℕ) → List ℕ
before_angle line = if list_any is_greater line then before_first is_greater line else []

abbrev pub after_less : List ℕ → List ℕ
after_less text = if begins_with (codes "<") text then drop 1 text else []

abbrev pub is_comma : ℕ → Bool
is_comma c = c == byte ","

abbrev pub has_few : (names : List ℕ) → Bool
has_few names = let commas = count_by is_comma names in nat_le 1 commas && nat_le commas 7

abbrev pub names_in : (line : List ℕ) → List ℕ
names_in line = let names = after_less (before_angle line) in if begins_list line && has_few names then names else []

-- the first unknown one of the list at this place
abbrev pub unknown_name : (rules : List ℕ) → (at : ℕ) → List ℕ
unknown_name rules at =
    let names = names_in (line_from rules at) in
    if is_empty names then [] else undeclared rules (listed_names names)
