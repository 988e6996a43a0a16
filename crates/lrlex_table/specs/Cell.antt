-- The cells of a table. A cell leads to a row, and is marked where some pattern matches there.
use Rattle.std.specs.Prelude.{◌≡◌, ◌≢◌, ℕ, ◌*◌, ◌%◌, ◌<◌, Bool, List, length, map, Option, None, is_some, nat_le, slice_index_or}

-- the row that a cell leads to
abbrev pub row_in : ℕ → ℕ
row_in cell = cell % 32768

-- the rows to which these cells lead
abbrev pub rows_in : List ℕ → List ℕ
rows_in cells = map row_in cells

-- the cell is marked
abbrev pub is_marked : ℕ → Bool
is_marked cell = nat_le 32768 cell

-- a pattern matches at the row
abbrev pub wins_at : List (Option ℕ) → ℕ → Bool
wins_at wins r = is_some (slice_index_or wins r None)

-- There are 256 cells for each row, each leads to a row, and is marked where a pattern matches there. At row 0 none does,
-- and it isn't the first.
abbrev pub IsSound : List ℕ → List (Option ℕ) → ℕ → Type 0
IsSound cells wins start =
    (length cells ≡ length wins * 256)
    × (start < length wins)
    × ((i : ℕ) → row_in (slice_index_or cells i 0) < length wins)
    × ((i : ℕ) → is_marked (slice_index_or cells i 0) ≡ wins_at wins (row_in (slice_index_or cells i 0)))
    × (slice_index_or wins 0 None ≡ None)
    × (start ≢ 0)
    × (start < 32768)
