use Rattle.std.proofs.Common.{◌≡◌, ◌<◌, ℕ, slice_index_or}
use Rattle.lrlex_table.proofs.chain.Chain.has_columns_of.Given as goal

abbrev pub invariant-bytes : goal.invariant-bytes
invariant-bytes l = (b : ℕ) → b < l.byte → slice_index_or l.self.columns.items b 0 ≡ slice_index_or l.self.columns.items (slice_index_or l.firsts b 0) 0
