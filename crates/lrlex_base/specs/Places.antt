-- Lines and columns as people count them, from 1. A line ends by U+000A alone.
use Rattle.std.specs.Prelude.{ℕ, ◌+◌, ◌-◌, ◌≡◌, Bool, List, [], ◌∷◌, length, map, take, drop, count_by, ◌==◌, if◌then◌else◌}
use Rattle.std.specs.List.{after_last, position_or_len}
use Rattle.std.specs.Str.{chars}
use Rattle.lrlex_base.specs.Spans.{Span, span}

abbrev pub is_newline : ℕ → Bool
is_newline c = c == 10

-- one more than the newlines before the place
abbrev pub line_of : List ℕ → ℕ → ℕ
line_of text at = 1 + count_by is_newline (take at text)

-- one more than the characters between the last of these and the place
abbrev pub column_of : List ℕ → ℕ → ℕ
column_of text at = 1 + length (chars (after_last is_newline (take at text)))

-- the whole lines of a span: from behind the last newline before its start, to the first at or after its end
abbrev pub whole_lines : List ℕ → Span → Span
whole_lines text x = span (x.start - length (after_last is_newline (take x.start text))) (x.end + position_or_len is_newline (drop x.end text))

-- the line and the column of a place
abbrev pub place_of : List ℕ → ℕ → ℕ × ℕ
place_of text at = (line_of text at, column_of text at)

-- what a newline cache means: the number of bytes fed, and the places of the newlines among them
pub record Breaks : Type 0 where
  pub fed : ℕ
  pub newlines : List ℕ

-- the places of the newlines in a text that begins at a place
abbrev pub newlines_from : ℕ → List ℕ → List ℕ
newlines_from at [] = []
newlines_from at (b ∷ bs) = if is_newline b then at ∷ newlines_from (at + 1) bs else newlines_from (at + 1) bs

-- the text has this length and these newlines
abbrev pub AreBreaksOf : List ℕ → Breaks → Type 0
AreBreaksOf text c = (c.fed ≡ length text) × (c.newlines ≡ newlines_from 0 text)

-- where the lines but the first begin
abbrev pub starts_after : List ℕ → List ℕ
starts_after newlines = map (λ p. p + 1) newlines

-- there is a text of this length whose lines but the first begin there
abbrev pub AreStartsOfSome : ℕ → List ℕ → Type 0
AreStartsOfSome fed starts = ∥ ((text : List ℕ) × (fed ≡ length text) × (starts ≡ starts_after (newlines_from 0 text))) ∥₁
