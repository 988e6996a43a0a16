use Rattle.std.proofs.Common.{◌≡◌, ℕ}
use Rattle.regex.specs.Patterns.{Re}
use Rattle.lrlex_table.specs.Tables.{AreCached}
use Rattle.lrlex_table.specs.Rows.{cached_rows}
use Rattle.lrlex_definition.proofs.state_tables.singles_in.Given as goal

abbrev pub invariant-lists : goal.invariant-lists
invariant-lists l =
    ((pattern : ℕ → Re) → AreCached pattern l.singles.items)
    × (cached_rows l.singles.items ≡ 0)
