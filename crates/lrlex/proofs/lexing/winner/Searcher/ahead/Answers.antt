use Rattle.std.proofs.Common.{◌≡◌, Some, slice_get, sym, ap, ◌∙◌, arith}
use Rattle.lrlex.proofs.FoundLemmas.{found_is, found_plain, found_some, got}
use Rattle.lrlex.proofs.lexing.winner.Searcher.ahead.Goals as goal

pub returns-clause-tile : goal.returns-clause-tile
returns-clause-tile g c input is =
    let table = c.args.table.now in
    let row = c.in_ok-next.next.row in
    let here : slice_get table.row_kinds.items row ≡ Some c.in_ok-kind.kind =
    ap (λ xs. slice_get xs row) (sym c.requires.kinds) ∙ got c.args.kinds.now row c.get.result c.in_ok-kind.kind (sym c.in_ok-kind.ensures) c.get.ensures.lookup.0 (c.get.ensures.lookup.4 (omega arith)) in
    found_is g.S.Numbered.number table c.args.rules.now c.requires.rules c.args.self.now input is c.args.place c.in_ok-next.next c.in_ok-kind.kind here c.if-kind-rules.false c.in_ok-next.ensures.best

pub returns-clause-some : goal.returns-clause-some
returns-clause-some g c =
    let table = c.args.table.now in
    let row = c.in_ok-next.next.row in
    let here : slice_get table.row_kinds.items row ≡ Some c.in_ok-kind.kind =
    ap (λ xs. slice_get xs row) (sym c.requires.kinds) ∙ got c.args.kinds.now row c.get.result c.in_ok-kind.kind (sym c.in_ok-kind.ensures) c.get.ensures.lookup.0 (c.get.ensures.lookup.4 (omega arith)) in
    found_some g.S.Numbered.number table c.args.rules.now c.requires.rules c.args.self.now c.requires.searcher.0 c.requires.searcher.1 c.args.place c.in_ok-next.next c.in_ok-kind.kind here c.if-kind-rules.false c.in_ok-next.ensures.best

pub returns-clause-plain : goal.returns-clause-plain
returns-clause-plain g c =
    let table = c.args.table.now in
    let row = c.in_ok-next.next.row in
    let here : slice_get table.row_kinds.items row ≡ Some c.in_ok-kind.kind =
    ap (λ xs. slice_get xs row) (sym c.requires.kinds) ∙ got c.args.kinds.now row c.get.result c.in_ok-kind.kind (sym c.in_ok-kind.ensures) c.get.ensures.lookup.0 (c.get.ensures.lookup.4 (omega arith)) in
    found_plain g.S.Numbered.number table c.args.rules.now c.requires.rules c.args.self.now c.requires.searcher.0 c.requires.searcher.1 c.args.place c.in_ok-next.next c.in_ok-kind.kind here c.if-kind-rules.false c.in_ok-next.ensures.best
