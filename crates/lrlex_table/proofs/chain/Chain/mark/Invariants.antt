use Rattle.std.proofs.Common.{◌≡◌, ℕ, ◌<◌, ◌≤◌, length}
use Rattle.lrlex_table.specs.Chain.{IsChainOf}
use Rattle.lrlex_table.specs.declared.table.Table.{Table}
use Rattle.lrlex_table.proofs.ChainLemmas.{IsLane}
use Rattle.lrlex_table.proofs.chain.Chain.mark.Given as goal

abbrev pub invariant-bytes : goal.invariant-bytes
invariant-bytes l = record {
  row : l.row < length l.self.bases.items;
  count : l.count ≤ l.at;
  room : length l.marks ≡ length l.fn.marks;
  lane : (t : Table) (k : ℕ) → IsChainOf t k l.self → IsLane t k l.self l.text l.from 0 l.marks l.count l.at l.row;
}
