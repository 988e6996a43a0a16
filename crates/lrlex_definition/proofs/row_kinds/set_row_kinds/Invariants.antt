use Rattle.std.proofs.Common.{◌≡◌, ℕ, List, Some, length, slice_get}
use Rattle.lrlex_rules.specs.RuleParts.{RuleParts}
use Rattle.lrlex_table.specs.declared.chain.Chain.{Chain}
use Rattle.lrlex_definition.specs.RowKinds.{AreRowKinds}
use Rattle.lrlex_definition.proofs.RowKindLemmas.{AreSet}
use Rattle.lrlex_definition.proofs.row_kinds.set_row_kinds.Given as goal

abbrev pub invariant-rows : goal.invariant-rows
invariant-rows g l =
    (length l.rows ≡ length l.fn.rows)
    × ((old : List (RuleParts g.row.S.Denot)) (lists : List (List ℕ)) (chains : List Chain) (c : Chain) → AreRowKinds old lists chains l.fn.rows → slice_get chains 0 ≡ Some c → AreSet l.rules lists c.names.items l.row l.rows)
