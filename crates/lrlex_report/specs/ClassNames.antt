-- Classes of characters with a name, as `[:alpha:]`. `regex` knows some names, and only within a class, as in `[[:alpha:]]`: otherwise
-- it reads a set of the characters between the brackets.
use Rattle.std.specs.Prelude.{ℕ, Bool, false, not, ◌&&◌, ◌||◌, ◌==◌, nat_lt, if◌then◌else◌, Option, Some, None, List, [], ◌∷◌, drop, take, slice_index, codes}
use Rattle.std.specs.Char.{is_ascii_alphabetic}
use Rattle.std.specs.List.{list_any, position}
use Rattle.std.specs.Str.{byte, bytes_eq}
use Rattle.lrlex_parser.specs.Text.{begins_with, is_empty}
use Rattle.lrlex_report.specs.PatternClasses.{at_beginning, from_first}
use Rattle.lrlex_report.specs.declared.warnings.pattern_classes.Part.{Part}
use Rattle.lrlex_report.specs.declared.warnings.pattern_classes.Part.TheVariants.{Range}
use Rattle.lrlex_report.specs.declared.warnings.pattern_classes.Context.{Context}

-- the names that `regex` knows: those of letters, of white space and of digits, and others
abbrev pub is_one_of_names : List (List ℕ) → List ℕ → Bool
is_one_of_names names name = list_any (bytes_eq name) names

abbrev pub names_letters : List ℕ → Bool
names_letters name = is_one_of_names (codes "alnum" ∷ codes "alpha" ∷ codes "lower" ∷ codes "upper" ∷ codes "word" ∷ []) name

abbrev pub names_space : List ℕ → Bool
names_space name = is_one_of_names (codes "blank" ∷ codes "space" ∷ []) name

abbrev pub names_digits : List ℕ → Bool
names_digits name = bytes_eq name (codes "digit")

-- `xdigit`
abbrev pub names_hex_digits : List ℕ → Bool
names_hex_digits [] = false
names_hex_digits (c ∷ rest) = (c == byte "x") && names_digits rest

abbrev pub names_others : List ℕ → Bool
names_others name = is_one_of_names (codes "ascii" ∷ codes "cntrl" ∷ codes "graph" ∷ codes "print" ∷ codes "punct" ∷ []) name

abbrev pub is_class_name : List ℕ → Bool
is_class_name name = names_letters name || (names_space name || (names_digits name || (names_hex_digits name || names_others name)))

-- A name ends at this place, where `:]` follows, and it isn't known: outside a class none is.
abbrev pub is_no_letter : ℕ → Bool
is_no_letter c = not (is_ascii_alphabetic c)

abbrev pub is_unknown_at : (within : Bool) → (text : List ℕ) → Option ℕ → Bool
is_unknown_at within text None = false
is_unknown_at within text (Some end) =
    nat_lt 0 end && begins_with (codes ":]") (drop end text) && not (within && is_class_name (take end text))

-- such a name begins the text
abbrev pub is_unknown_name : (within : Bool) → (text : List ℕ) → Bool
is_unknown_name within text = is_unknown_at within text (position is_no_letter text)

-- a `^` may be before it
abbrev pub after_caret : List ℕ → List ℕ
after_caret text = if slice_index text 0 == byte "^" then drop 1 text else text

-- these bytes begin a class with a name, but not where `[` ends a range
abbrev pub begins_name : Part → (b c : ℕ) → Bool
begins_name Range b c = false
begins_name part b c = (b == byte "[") && (c == byte ":")

abbrev pub is_unknown_class : Context → List ℕ → Bool
is_unknown_class x [] = false
is_unknown_class x (b ∷ []) = false
is_unknown_class x (b ∷ c ∷ rest) = begins_name x.part b c && is_unknown_name (nat_lt 0 x.classes) (after_caret rest)

-- the pattern has one
abbrev pub has_unknown_class : (pattern : List ℕ) → Bool
has_unknown_class pattern = not (is_empty (from_first is_unknown_class at_beginning pattern))
