-- What the columns of a line count, from 0.
use Rattle.std.specs.Prelude.{ℕ, ◌+◌, ◌≤◌, Bool, List, length, take, count_by, nat_le, IsCharBoundary}
use Rattle.std.specs.Str.{chars}
use Rattle.lrlex_positions.specs.declared.encoding.PositionEncoding.{PositionEncoding}
use Rattle.lrlex_positions.specs.declared.encoding.PositionEncoding.TheVariants.{Utf8, Utf16}

-- a character that takes two code units of UTF-16: one beyond U+FFFF
abbrev pub is_wide : ℕ → Bool
is_wide c = nat_le 0x1_0000 c

-- how many code units these characters take
abbrev pub units : List ℕ → ℕ
units cs = length cs + count_by is_wide cs

-- how many columns a text takes: its bytes of UTF-8, or its code units of UTF-16
abbrev pub width : PositionEncoding → List ℕ → ℕ
width Utf8 text = length text
width Utf16 text = units (chars text)

-- the last place between two characters of a line whose front takes at most this many columns
pub record IsLastColumn (encoding : PositionEncoding) (line : List ℕ) (column at : ℕ) : Type 0 where
  pub boundary : IsCharBoundary line at
  pub up_to : width encoding (take at line) ≤ column
  pub last : (i : ℕ) → IsCharBoundary line i → width encoding (take i line) ≤ column → i ≤ at
