-- How many bytes of a text a pattern matches.
use Rattle.std.specs.Prelude.{ℕ, ◌==◌, ◌&&◌, if◌then◌else◌, List, Option, Some, None, option_map}
use Rattle.regex_hir.specs.Text.{is_boundary}
use Rattle.regex.specs.Patterns.{Re, find_str, span}

-- the end of a match that starts at 0 and ends between characters, and otherwise 0
abbrev pub end_from_zero : List ℕ → Option (ℕ × ℕ) → ℕ
end_from_zero text None = 0
end_from_zero text (Some s) = if s.0 == 0 && is_boundary text s.1 then s.1 else 0

-- how many bytes of the text a pattern matches, by the leftmost match that `regex` defines
unfoldable pub match_length : Re → List ℕ → ℕ
match_length re text = end_from_zero text (option_map span (find_str re text 0))
