use Rattle.std.proofs.Common.{◌+◌, ◌≤◌, ℕ}
use Rattle.regex.specs.Patterns.{Re}
use Rattle.lrlex_table.specs.Rows.{cached_rows}
use Rattle.lrlex_table.specs.Tables.{AreCached}
use Rattle.lrlex_table.proofs.merged_tables.release_all.Given as goal

abbrev pub invariant-places : goal.invariant-places
invariant-places l =
    ((pattern : ℕ → Re) → AreCached pattern l.fn.cache → AreCached pattern l.cache)
    × (cached_rows l.cache + l.budget.rows ≤ cached_rows l.fn.cache + l.fn.budget.rows)
