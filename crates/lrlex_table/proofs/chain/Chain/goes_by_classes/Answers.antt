use Rattle.std.proofs.Common.{◌≡◌, ◌+◌, ◌<◌, length, get_or, sym, ◌∙◌, subst}
use Rattle.lrlex_table.specs.Chain.{row_behind, GoesTo}
use Rattle.lrlex_table.proofs.chain.Chain.goes_by_classes.Goals as goal

pub returns : goal.returns
returns c held r b inside small k p only =
    let self = c.args.self.now in
    let cells = self.cells.items in
    let columns = self.columns.items in
    let f = get_or c.args.classes.now.firsts b 0 in
    let head = c.are_heads.ensures c.if-not-are_heads.false b small in
    let same : c.deref-2.result.now ≡ c.deref.result.now = c.deref-2.ensures.value ∙ sym c.deref.ensures.value in
    let goes : GoesTo p.table k self r f (row_behind cells columns r f) = subst (λ x. GoesTo p.table k self r x (row_behind cells columns r x)) head.2
    (subst (λ hs. head.0 < length hs → GoesTo p.table k self r (get_or hs head.0 0) (row_behind cells columns r (get_or hs head.0 0))) same (λ lt. c.all_go_as.ensures held r head.0 inside lt k p only) head.1) in
    subst (λ x. GoesTo p.table k self r f (get_or cells (x + r) 0)) (sym (c.has_columns_of.ensures c.if-not-has_columns_of.false b small)) goes
