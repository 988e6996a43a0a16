-- Places as the Language Server Protocol counts them: lines from 0, and in a line code units of UTF-16, from 0 too.
use Rattle.std.specs.Prelude.{ℕ, List}
use Rattle.lrlex_positions.specs.Positions.{position_of}
use Rattle.lrlex_positions.specs.declared.encoding.PositionEncoding.TheVariants.{Utf16}

abbrev pub utf16_position : List ℕ → ℕ → ℕ × ℕ
utf16_position text at = position_of Utf16 text at
