use Rattle.std.proofs.Common.{◌<◌, ℕ, length, slice_index_or}
use Rattle.lrlex_table.specs.Chain.{row_behind, IsOnly, GoesTo}
use Rattle.lrlex_table.specs.declared.merged_tables.Part.{Part}
use Rattle.lrlex_table.proofs.chain.Chain.all_go_as.Given as goal

abbrev pub invariant-rows : goal.invariant-rows
invariant-rows l = (r i : ℕ) → r < l.row → i < length l.heads → (k : ℕ) (p : Part) → IsOnly l.lists k p →
    GoesTo p.table k l.self r (slice_index_or l.heads i 0) (row_behind l.self.cells.items l.self.columns.items r (slice_index_or l.heads i 0))
