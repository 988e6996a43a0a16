-- Linear work: how many cells looking for winners takes, at most.
use Rattle.std.specs.Prelude.{◌≡◌, ℕ, ◌+◌, ◌-◌, ◌*◌, ◌/◌, ◌≤◌, false, List}
use Rattle.std.specs.HashMap.{hash_map_len}
use Rattle.std.specs.List.{sum_by}
use Rattle.lrlex_table.specs.Tables.{rows_of}
use Rattle.lrlex_table.specs.declared.tables.Tables.{Tables}
use Rattle.lrlex_table.specs.declared.dead_ends.DeadEnds.{DeadEnds}

-- Winners were looked for from `from` on up to `place`, through at most so many tables at each place. Walks looked at 390 cells
-- at most for each byte and table, and at 192 for each dead end that is known, unless one was forgotten. Looking ahead takes at
-- most four cells for each byte, and comes at most 4,096 bytes farther.
pub record HasWorkedTo (tables from place : ℕ) (e : DeadEnds) : Type 0 where
  pub onward : from ≤ place
  pub walks : e.forgot ≡ false → e.looked ≤ 390 * (tables * (place - from)) + 192 * hash_map_len e.known
  pub ahead : e.ahead.cells ≤ 4 * (e.ahead.limit - from)
  pub near : e.ahead.limit ≤ place + 4096

-- how many rows the tables of these lists have
abbrev pub count_of_rows : List Tables → ℕ
count_of_rows lists = sum_by (λ ts. rows_of ts.parts.items) lists

-- So many cells are looked at, at most, for so many bytes of a text of this length, through at most so many tables at each place,
-- which have so many rows in all.
abbrev pub most_cells : (tables bytes rows length : ℕ) → ℕ
most_cells tables bytes rows length = 390 * (tables * bytes) + 192 * (rows * (length / 64 + 1)) + 4 * bytes + 16384
