use Rattle.std.proofs.Common.{◌≡◌, ℕ, Some, None, slice_index_or, subst, inl, inr, arith}
use Rattle.std.proofs.lemmas.Bool.{cases_lt}
use Rattle.lrlex_table.specs.Chain.{list_of, base_of, name_of, IsOnly}
use Rattle.lrlex_table.specs.declared.merged_tables.Part.{Part}
use Rattle.lrlex_table.proofs.chain.Chain.names_winners.Goals as goal

pub rows-preserved : goal.rows-preserved
rows-preserved c r lt =
    let self = c.args.self.now in
    let lists = c.args.lists.now in
    elim (cases_lt r c.rows.row) [
      | inl before ↦ c.rows.invariant r before
      | inr last ↦
          let same : c.rows.row ≡ r = omega arith in
          subst (λ q. (m : ℕ) (p : Part) (k : ℕ) → IsOnly lists m p → list_of self q ≡ m → slice_index_or p.table.wins.items (base_of self q) None ≡ Some k → name_of self q ≡ slice_index_or p.patterns.items k 0) same
          (c.is_named.ensures c.if-not-is_named.false)
    ]

pub returns : goal.returns
returns c held l p only r k lt of_l won = c.rows.invariant r (omega (arith, lt, c.rows-test.false, c.len-row-end.ensures, c.args.self.now.bases.ok.0)) l p k only of_l won
