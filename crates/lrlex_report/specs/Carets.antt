-- How the characters of a line are shown, and the blanks and carets under them.
use Rattle.std.specs.Prelude.{ℕ, ◌-◌, ◌==◌, ◌&&◌, nat_lt, not, List, [], ◌∷◌, ◌++◌, length, take, drop, flat_map, replicate, codes, unwrap_or, false, if◌then◌else◌}
use Rattle.std.specs.Char.{encode_utf8, is_control}
use Rattle.unicode_width.specs.Width.{char_width}

-- a control character is shown as U+FFFD, so that none reaches a terminal; a tab is shown as a tab
abbrev pub shown_char : ℕ → ℕ
shown_char c = if is_control c && not (c == 9) then 0xFFFD else c

abbrev pub shown_line : List ℕ → List ℕ
shown_line cs = flat_map (λ c. encode_utf8 (shown_char c)) cs

-- how many characters of a line are shown before a place, and how many from there on: 80 where the line has more than 200
abbrev pub most_of : List ℕ → ℕ
most_of line = if nat_lt 200 (length line) then 80 else 200

-- this text where characters aren't shown
abbrev pub if_hidden : (hidden : ℕ) → List ℕ → List ℕ
if_hidden hidden text = if nat_lt 0 hidden then text else []

-- what is shown of the characters before a place: the last ones, and `...` before them for the others
abbrev pub shown_front : (most : ℕ) → List ℕ → List ℕ
shown_front most cs = if_hidden (length cs - most) (codes "...") ++ drop (length cs - most) cs

-- what is shown of the characters from a place on: the first ones, and `...` behind them for the others
abbrev pub shown_rest : (most : ℕ) → List ℕ → List ℕ
shown_rest most cs = take most cs ++ if_hidden (length cs - most) (codes "...")

-- how many columns a character takes in a terminal; a tab counts as one
abbrev pub columns : ℕ → ℕ
columns c = unwrap_or (char_width false (shown_char c)) 1

-- what goes under a character before the carets: a tab under a tab, and else blanks
abbrev pub under : ℕ → List ℕ
under c = if c == 9 then 9 ∷ [] else replicate (columns c) 32

abbrev pub padding : List ℕ → List ℕ
padding cs = flat_map under cs

-- these carets, and one if there are none
abbrev pub or_caret : List ℕ → List ℕ
or_caret [] = 94 ∷ []
or_caret (b ∷ bs) = b ∷ bs

-- a caret in each column of these characters
abbrev pub marks : List ℕ → List ℕ
marks cs = flat_map (λ c. replicate (columns c) 94) cs

-- a caret in each column of these characters, and at least one
abbrev pub carets : List ℕ → List ℕ
carets cs = or_caret (marks cs)
