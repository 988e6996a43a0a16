use Rattle.std.proofs.Common.{◌≡◌, ◌-◌, drop, take, sym, subst, arith}
use Rattle.lrlex_table.specs.Ahead.{AreAheadIn, AreBestIn, AreWonAhead}
use Rattle.lrlex_table.proofs.ByteLemmas.{are_bytes}
use Rattle.lrlex_table.proofs.AheadLemmas.{all_best}
use Rattle.lrlex_table.proofs.dead_ends.DeadEnds.matches_in.Goals as goal

pub returns-clause-best : goal.returns-clause-best
returns-clause-best c chain is =
    let self = c.args.self.now in
    let text = c.args.text.now in
    let a = self.ahead in
    let same = sym c.requires.text in
    let marks : c.deref-2.result.now ≡ a.marks.items = c.deref-2.ensures.value in
    subst (λ xs. AreBestIn self.lists.now text a.from c.args.place (take (a.count - a.at) (drop a.at xs)) chain.now) (sym marks)
    (all_best self.lists.now chain.now text (are_bytes text c.type_inv.text) c.utf8.text a c.args.place (subst (λ xs. AreAheadIn xs a) same self.marked)
    (subst (λ xs. AreWonAhead self.lists.now chain.now xs a) same (self.won chain is)) (omega (arith, c.if-self.false)) c.if-self-place.false)
