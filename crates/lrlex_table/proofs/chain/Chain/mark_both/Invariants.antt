use Rattle.std.proofs.Common.{◌≡◌, ℕ, ◌+◌, ◌-◌, ◌<◌, ◌≤◌, drop, length}
use Rattle.lrlex_table.specs.Chain.{IsChainOf, end_of}
use Rattle.lrlex_table.specs.declared.table.Table.{Table}
use Rattle.lrlex_table.proofs.ChainLemmas.{IsLane}
use Rattle.lrlex_table.proofs.chain.Chain.mark_both.Given as goal

abbrev pub invariant-bytes : goal.invariant-bytes
invariant-bytes l = record {
  row : l.row < length l.self.bases.items;
  count : l.count ≤ l.at;
  first : (t : Table) (k : ℕ) → IsChainOf t k l.self → IsLane t k l.self l.text l.from 0 l.marks l.count l.at l.row;
  other : l.other < length l.self.bases.items;
  from_half : l.half ≤ l.others;
  others : l.others ≤ l.half + l.at;
  room : length l.marks ≡ length l.fn.marks;
  second : (t : Table) (k : ℕ) → IsChainOf t k l.self → IsLane t k l.self l.text (l.from + l.apart) 0 (drop l.half l.marks) (l.others - l.half) l.at l.other;
  near : (k : ℕ) → k < l.others - l.half → end_of (drop l.half l.marks) k ≤ l.at;
}
