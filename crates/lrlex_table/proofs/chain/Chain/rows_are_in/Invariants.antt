use Rattle.std.proofs.Common.{◌<◌, ℕ}
use Rattle.lrlex_table.specs.Chain.{list_of, IsIn}
use Rattle.lrlex_table.proofs.chain.Chain.rows_are_in.Given as goal

abbrev pub invariant-rows : goal.invariant-rows
invariant-rows l = (r : ℕ) → r < l.row → IsIn l.self (list_of l.self r)
