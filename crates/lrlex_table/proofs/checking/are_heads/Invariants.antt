use Rattle.std.proofs.Common.{◌≡◌, ◌<◌, ℕ, length, slice_index_or}
use Rattle.lrlex_table.proofs.checking.are_heads.Given as goal

abbrev pub invariant-bytes : goal.invariant-bytes
invariant-bytes l = (b : ℕ) → b < l.byte → (k : ℕ) × (k < length l.heads) × (slice_index_or l.heads k 0 ≡ slice_index_or l.firsts b 0)
