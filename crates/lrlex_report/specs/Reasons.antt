-- Why lexing stopped, in words.
use Rattle.std.specs.Prelude.{ℕ, ◌==◌, ◌&&◌, ◌||◌, not, Bool, false, List, [], ◌∷◌, ◌++◌, drop, codes, Option, Some, None, slice_get, unwrap_or, if◌then◌else◌}
use Rattle.std.specs.Char.{encode_utf8, is_whitespace}
use Rattle.std.specs.Fmt.{digits}
use Rattle.std.specs.Str.{chars}
use Rattle.unicode_width.specs.Width.{char_width}

-- a character that nobody sees: white space other than the space, or one that takes no column in a terminal
abbrev pub is_unseen : ℕ → Bool
is_unseen c = not (c == 32) && (is_whitespace c || (unwrap_or (char_width false c) 0 == 0))

-- a character in single quotes; one that nobody sees as Rust escapes it
abbrev pub quoted : ℕ → List ℕ
quoted c =
    if c == 9 then codes "'\\t'"
    else if c == 10 then codes "'\\n'"
    else if c == 13 then codes "'\\r'"
    else if is_unseen c then codes "'\\u{" ++ (digits 16 false c ++ codes "}'")
    else 39 ∷ (encode_utf8 c ++ 39 ∷ [])

-- what was found where no rule matches: a character, or the end of the text
abbrev pub unexpected : Option ℕ → List ℕ
unexpected None = codes "unexpected end of the text"
unexpected (Some c) = codes "unexpected character " ++ quoted c

-- the start state, if there is a name
abbrev pub in_state : Option (List ℕ) → List ℕ
in_state None = []
in_state (Some name) = codes " in start state " ++ name

-- with a start state no rule matched in it; without one a rule matched, and has no id or no target
abbrev pub reason : Option ℕ → (found : Option ℕ) → (name : Option (List ℕ)) → List ℕ
reason None found name = codes "the rule that matches here gives no lexeme"
reason (Some state) found name = unexpected found ++ in_state name

-- the character at a place, if there is one
abbrev pub char_at : List ℕ → ℕ → Option ℕ
char_at text at = slice_get (chars (drop at text)) 0
