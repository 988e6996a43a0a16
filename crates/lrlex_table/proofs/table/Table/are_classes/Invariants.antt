use Rattle.std.proofs.Common.{◌≡◌, ◌<◌, ℕ, Some, slice_index_or}
use Rattle.lrlex_table.specs.Table.{next_rows, next_of}
use Rattle.lrlex_table.proofs.table.Table.are_classes.Given as goal

abbrev pub invariant-rows : goal.invariant-rows
invariant-rows l = (r b : ℕ) → r < l.row → b < 256 → next_of (next_rows l.self) r (Some b) ≡ next_of (next_rows l.self) r (Some (slice_index_or l.firsts b 0))
