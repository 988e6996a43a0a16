-- The escapes of a pattern, and the white space at the end of its line's head.
use Rattle.std.specs.Prelude.{ℕ, ◌%◌, Bool, ◌&&◌, ◌||◌, if◌then◌else◌, List, [], ◌∷◌, ◌++◌, length, drop, take, slice_index, codes, ◌==◌}
use Rattle.std.specs.List.{list_any, suffix_len}
use Rattle.std.specs.Char.{is_ascii_digit, is_ascii_hexdigit}
use Rattle.std.specs.Str.{chars, encode_utf8_all, byte}
use Rattle.lrlex_parser.specs.Text.{trim_end}

abbrev pub is_backslash : ℕ → Bool
is_backslash c = c == byte "\\"

-- whether c is one of these ASCII characters
abbrev pub is_one_of : List ℕ → ℕ → Bool
is_one_of set c = list_any (λ d. d == c) set

-- the characters with a meaning in a pattern: escaped, each stands for itself (`regex`)
abbrev pub is_meta : ℕ → Bool
is_meta c = is_one_of (codes "\\.+*?()|[]{}^$#&-~") c

-- c begins an escape that `regex` reads, where rest comes after it (POSIX lex's escapes, and the classes of `regex`)
abbrev pub begins_escape : ℕ → List ℕ → Bool
begins_escape c rest = is_ascii_digit c || is_one_of (codes "afnrtvpPdDsSwWAz") c || (is_one_of (codes "xuU") c && is_ascii_hexdigit (slice_index rest 0))

-- what becomes of a backslash and c, where rest comes after them
abbrev pub escape : Bool → ℕ → List ℕ → List ℕ
escape posix c rest =
    if c == byte "b" then (if posix then codes "\\x08" else codes "\\b")
    else (if is_meta c || begins_escape c rest then byte "\\" ∷ c ∷ [] else c ∷ [])

-- the pattern with its escapes rewritten from left to right; a lone backslash at the end stays.
-- It goes by bytes: of a character beyond ASCII, each byte stays.
abbrev pub unescape : Bool → List ℕ → List ℕ
unescape posix [] = []
unescape posix (b ∷ []) = b ∷ []
unescape posix (b ∷ c ∷ rest) = if is_backslash b then escape posix c rest ++ unescape posix rest else b ∷ unescape posix (c ∷ rest)

-- a text that ends in an odd number of backslashes
abbrev pub ends_in_escape : List ℕ → Bool
ends_in_escape text = suffix_len is_backslash text % 2 == 1

-- the first character of a text, if it has one
abbrev pub first_char : List ℕ → List ℕ
first_char text = encode_utf8_all (take 1 (chars text))

-- a head without the white space at its end, but for the first character of it where that is escaped
abbrev pub trim_head : List ℕ → List ℕ
trim_head head = let kept = trim_end head in if ends_in_escape kept then kept ++ first_char (drop (length kept) head) else kept
