-- Places of a text as the Language Server Protocol tells them: by line and column, both from 0.
use Rattle.std.specs.Prelude.{ℕ, ◌≡◌, ◌<◌, ◌≤◌, ◌⊎◌, List, take, count_by}
use Rattle.std.specs.List.{after_last}
use Rattle.lrlex_base.specs.Places.{is_newline}
use Rattle.lrlex_positions.specs.Columns.{width}
use Rattle.lrlex_positions.specs.Lines.{with_newlines, HasPosition}
use Rattle.lrlex_positions.specs.declared.encoding.PositionEncoding.{PositionEncoding}

-- the lines that end before the place, and the columns between the last of these ends and the place
abbrev pub position_of : PositionEncoding → List ℕ → ℕ → ℕ × ℕ
position_of encoding text at =
    let lines = with_newlines text in
    (count_by is_newline (take at lines), width encoding (after_last is_newline (take at lines)))

-- the first position isn't behind the second
abbrev pub IsUpTo : ℕ × ℕ → ℕ × ℕ → Type 0
IsUpTo a b = (a.0 < b.0) ⊎ ((a.0 ≡ b.0) × (a.1 ≤ b.1))

-- the last place whose position isn't behind this one
pub record IsLastUpTo (encoding : PositionEncoding) (text : List ℕ) (position : ℕ × ℕ) (at : ℕ) : Type 0 where
  pub place : HasPosition text at
  pub up_to : IsUpTo (position_of encoding text at) position
  pub last : (i : ℕ) → HasPosition text i → IsUpTo (position_of encoding text i) position → i ≤ at
