use Rattle.std.proofs.Common.{◌≡◌, ℕ, slice_index_or, subst, inl, inr, arith}
use Rattle.std.proofs.lemmas.Bool.{cases_lt}
use Rattle.lrlex_table.specs.Chain.{row_behind, IsOnly, GoesTo}
use Rattle.lrlex_table.specs.declared.merged_tables.Part.{Part}
use Rattle.lrlex_table.proofs.chain.Chain.row_goes_as.Goals as goal

pub heads-preserved : goal.heads-preserved
heads-preserved c i lt =
    let self = c.args.self.now in
    let goes : ℕ → Type 0 = λ b. (k : ℕ) (p : Part) → IsOnly c.args.lists.now k p → GoesTo p.table k self c.args.row b (row_behind self.cells.items self.columns.items c.args.row b) in
    elim (cases_lt i c.heads.at) [
      | inl before ↦ c.heads.invariant i before
      | inr last ↦
          let same : c.heads.at ≡ i = omega arith in
          subst (λ j. goes (slice_index_or c.args.heads.now j 0)) same (c.goes_as.ensures c.if-not-goes_as.false)
    ]

pub returns : goal.returns
returns c held k lt = c.heads.invariant k (omega (arith, lt, c.heads-test.false))
