use Rattle.std.proofs.Common.{◌≡◌, ◌+◌, ◌-◌, ◌*◌, ◌<◌, length, get_or, ap, subst, inl, inr, arith}
use Rattle.std.proofs.lemmas.Bool.{cases_lt}
use Rattle.lrlex_table.specs.Cell.{rows_in}
use Rattle.lrlex_table.proofs.CheckingLemmas.{alike_cells}
use Rattle.lrlex_table.proofs.table.Table.are_classes.Goals as goal

pub rows-preserved : goal.rows-preserved
rows-preserved c r b lt small = elim (cases_lt r c.rows.row) [
  | inl before ↦ c.rows.invariant r b before small
  | inr last ↦
      let self = c.args.self.now in
      let f = get_or c.args.firsts.now b 0 in
      let row = c.rows.row in
      let same : row ≡ r = omega arith in
      let long = ap length c.deref.ensures.value in
      let inside : row * 256 + 256 < length c.deref.result.now + 1 = omega (arith, long, self.sound.0, c.rows-test.true, c.len-row-end.ensures, self.wins.ok.0) in
      let other : f < 256 = omega (arith, c.fits-firsts b) in
      let alike = alike_cells c.deref.result.now (row * 256) (row * 256 + 256 - row * 256) b f (omega arith) (omega arith) (omega arith) (omega arith) (c.is_alike.ensures c.if-not-is_alike.false b small) in
      subst (λ q. get_or (rows_in self.cells.items) (q * 256 + b) 0 ≡ get_or (rows_in self.cells.items) (q * 256 + f) 0) same
      (subst (λ xs. get_or (rows_in xs) (row * 256 + b) 0 ≡ get_or (rows_in xs) (row * 256 + f) 0) c.deref.ensures.value alike)
]
