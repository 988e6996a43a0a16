use Rattle.std.proofs.Common.{◌<◌, ℕ, slice_index_or}
use Rattle.lrlex_table.specs.Chain.{row_behind, IsOnly, GoesTo}
use Rattle.lrlex_table.specs.declared.merged_tables.Part.{Part}
use Rattle.lrlex_table.proofs.chain.Chain.row_goes_as.Given as goal

abbrev pub invariant-heads : goal.invariant-heads
invariant-heads l = (i : ℕ) → i < l.at → (k : ℕ) (p : Part) → IsOnly l.lists k p →
    GoesTo p.table k l.self l.row (slice_index_or l.heads i 0) (row_behind l.self.cells.items l.self.columns.items l.row (slice_index_or l.heads i 0))
