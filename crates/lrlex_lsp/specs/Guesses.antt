-- What a piece of a text is guessed to be.
use Rattle.std.specs.Prelude.{ℕ, ◌-◌, ◌==◌, ◌||◌, Bool, List, [], ◌∷◌, ◌++◌, Option, Some, None, codes, chars, drop, length, slice_index, bytes_eq, if◌then◌else◌}
use Rattle.std.specs.Borrow.{Bor}
use Rattle.std.specs.Char.{is_ascii_digit, is_ascii_punctuation}
use Rattle.std.specs.Char.Unicode.Alphabetic.{is_alphabetic}
use Rattle.std.specs.Str.{str_eq_ignore_ascii_case, trim}
use Rattle.lrlex_lsp.specs.declared.guesses.Guess.{Guess}
use Rattle.lrlex_lsp.specs.declared.guesses.Guess.TheVariants.{Comment, Keyword, Number, Text, Name, Operator}

-- a rule is named after its text, as `if` by IF or Kif
abbrev pub is_keyword : (name text : List ℕ) → Bool
is_keyword name text = str_eq_ignore_ascii_case name text || bytes_eq name (codes "K" ++ text)

-- a name ends in this word, in either case
abbrev pub ends_in : (name word : List ℕ) → Bool
ends_in name word = str_eq_ignore_ascii_case (drop (length name - length word) name) word

-- a rule is named as quoted texts and their insides are
abbrev pub is_named_as_text : (name : List ℕ) → Bool
is_named_as_text name = str_eq_ignore_ascii_case name (codes "STRING") || ends_in name (codes "TEXT") || ends_in name (codes "ESC") || ends_in name (codes "ESCAPE")

-- a text begins with a quote
abbrev pub is_quoted : (text : List ℕ) → Bool
is_quoted text = slice_index text 0 == 34 || slice_index text 0 == 39

-- by the first character
abbrev pub guess_by_first : (text : List ℕ) → Option Guess
guess_by_first [] = None
guess_by_first (c ∷ _) =
    if is_ascii_digit c then Some Number
    else if is_alphabetic c || c == 95 then Some Name
    else if is_ascii_punctuation c then Some Operator
    else None

-- by a rule's name and by the text
abbrev pub guess_by_name : (name text : List ℕ) → Option Guess
guess_by_name name text =
    if is_keyword name text then Some Keyword
    else if str_eq_ignore_ascii_case name (codes "COMMENT") then Some Comment
    else if is_named_as_text name || is_quoted text then Some Text
    else guess_by_first (chars text)

-- by a rule's name, if it has one, and by the text: without a name white space is nothing, and all else a comment
abbrev pub guess_of : (name : Option (Bor (List ℕ))) → (text : List ℕ) → Option Guess
guess_of (Some name) text = guess_by_name name.now text
guess_of None text = if length (trim text) == 0 then None else Some Comment
