-- The classes of characters that a rule file is read by. A character is its code.
use Rattle.std.specs.Prelude.{ℕ, Bool, ◌==◌, ◌||◌}
use Rattle.std.specs.Int.{is_in_range}

-- white space: Unicode's Pattern_White_Space
abbrev pub is_white_space : ℕ → Bool
is_white_space c = is_in_range 0x9 0xD c || (c == 0x20) || (c == 0x85) || is_in_range 0x200E 0x200F c || is_in_range 0x2028 0x2029 c

-- what ends a line: of white space, U+000A, U+000B, U+000D and the line and paragraph separators (this project's own profile)
abbrev pub is_line_sep : ℕ → Bool
is_line_sep c = is_in_range 0xA 0xB c || (c == 0xD) || is_in_range 0x2028 0x2029 c

-- a blank: the space and the tab (POSIX's <blank>)
abbrev pub is_blank : ℕ → Bool
is_blank c = (c == 0x20) || (c == 0x9)
