use Rattle.std.proofs.Common.{◌≡◌, ◌<◌, ℕ, Some, None, slice_index_or}
use Rattle.lrlex_table.specs.Chain.{list_of, base_of, name_of, IsOnly}
use Rattle.lrlex_table.specs.declared.merged_tables.Part.{Part}
use Rattle.lrlex_table.proofs.chain.Chain.names_winners.Given as goal

abbrev pub invariant-rows : goal.invariant-rows
invariant-rows l =
    (r : ℕ) → r < l.row → (m : ℕ) (p : Part) (k : ℕ) → IsOnly l.lists m p → list_of l.self r ≡ m →
    slice_index_or p.table.wins.items (base_of l.self r) None ≡ Some k → name_of l.self r ≡ slice_index_or p.patterns.items k 0
