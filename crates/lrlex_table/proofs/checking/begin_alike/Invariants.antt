use Rattle.std.proofs.Common.{ℕ, ◌<◌, ◌≤◌, slice_index_or}
use Rattle.lrlex_table.proofs.checking.begin_alike.Given as goal

abbrev pub invariant-bytes : goal.invariant-bytes
invariant-bytes l = (b : ℕ) → b < l.byte → (128 ≤ slice_index_or l.firsts b 0 → 192 ≤ slice_index_or l.firsts b 0) → 128 ≤ b → 192 ≤ b
