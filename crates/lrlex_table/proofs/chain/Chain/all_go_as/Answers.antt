use Rattle.std.proofs.Common.{◌≡◌, ◌<◌, ℕ, length, slice_index_or, subst, inl, inr, arith}
use Rattle.std.proofs.lemmas.Bool.{cases_lt}
use Rattle.lrlex_table.specs.Chain.{row_behind, IsOnly, GoesTo}
use Rattle.lrlex_table.specs.declared.merged_tables.Part.{Part}
use Rattle.lrlex_table.proofs.chain.Chain.all_go_as.Goals as goal

pub rows-preserved : goal.rows-preserved
rows-preserved c r i lt =
    let self = c.args.self.now in
    let b = slice_index_or c.args.heads.now i 0 in
    elim (cases_lt r c.rows.row) [
      | inl before ↦ c.rows.invariant r i before
      | inr last ↦
          let same : c.rows.row ≡ r = omega arith in
          subst (λ q. i < length c.args.heads.now → (k : ℕ) (p : Part) → IsOnly c.args.lists.now k p → GoesTo p.table k self q b (row_behind self.cells.items self.columns.items q b)) same
          (c.row_goes_as.ensures c.if-not-row_goes_as.false i)
    ]

pub returns : goal.returns
returns c held r i lt = c.rows.invariant r i (omega (arith, lt, c.rows-test.false, c.len-row-end.ensures))
