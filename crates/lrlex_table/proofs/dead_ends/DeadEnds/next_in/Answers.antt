use Rattle.std.proofs.Common.{◌+◌, slice_get, sym, ap, ◌∙◌, subst, arith}
use Rattle.lrlex_table.specs.Ahead.{AreAheadIn, AreWonAhead, IsBestUpTo}
use Rattle.lrlex_table.specs.Chain.{list_of, name_of}
use Rattle.lrlex_table.proofs.ByteLemmas.{are_bytes}
use Rattle.lrlex_table.proofs.AheadLemmas.{next_best}
use Rattle.lrlex_table.proofs.dead_ends.DeadEnds.next_in.Goals as goal

pub returns-clause-best : goal.returns-clause-best
returns-clause-best c chain is ts there =
    let self = c.args.self.now in
    let text = c.args.text.now in
    let a = self.ahead in
    let same = sym c.requires.text in
    let mark = c.index-mark.result.now in
    let place = c.args.place in
    subst (λ r. IsBestUpTo ts text place (name_of chain.now r) (a.from + c.end.result)) (sym c.row.ensures)
    (subst (λ e. IsBestUpTo ts text place (name_of chain.now mark.row) (a.from + e)) (sym c.end.ensures)
    (next_best self.lists.now ts chain.now text (are_bytes text c.type_inv.text) c.utf8.text a place mark (subst (λ xs. AreAheadIn xs a) same self.marked)
    (subst (λ xs. AreWonAhead self.lists.now chain.now xs a) same (self.won chain is)) (omega (arith, c.if-self.false)) c.if-self-place.false c.index-mark.ensures
    (ap (λ r. slice_get self.lists.now (list_of chain.now r)) (sym c.row.ensures) ∙ there)))
