use Rattle.std.proofs.Common.{◌≡◌, ◌-◌, ◌++◌, length, take, drop, sym, ◌∙◌, ap, arith}
use Rattle.std.proofs.lemmas.List.{length-drop, length-take-le}
use Rattle.lrlex_base.proofs.NewlineEditLemmas.{spliced_is}
use Rattle.lrlex_lsp.specs.Changes.{replaced}
use Rattle.lrlex_lsp.proofs.ChangeLemmas.{part_replaced}
use Rattle.lrlex_lsp.proofs.changes.put_between.Goals as goal

pub returns-clause-puts : goal.returns-clause-puts
returns-clause-puts c =
    let i = c.in_ok-splice.ensures.items in
    let added = c.in_ok-new.new.items in
    let old = c.args.numbers.now.items in
    spliced_is old c.splice.new.self.items added i.1 c.args.from c.args.to i.0 i.2.0 (omega (arith, i.2.1, c.in_ok-new.new.ok.0)) i.3 i.4
    ∙ ap (λ xs. take c.args.from old ++ (xs ++ drop c.args.to old)) c.in_ok-new.ensures.items

pub returns-clause-makes : goal.returns-clause-makes
returns-clause-makes c =
    let e = c.change_between-edit.result in
    let part : replaced (take (c.args.to - c.args.from) (drop c.args.from c.args.numbers.now.items)) e.start e.removed e.put.now ≡ c.args.put.now =
    ap (λ xs. replaced (take (c.args.to - c.args.from) (drop c.args.from xs)) e.start e.removed e.put.now) (sym c.deref.ensures.value) ∙ c.change_between-edit.ensures.makes in
    part_replaced c.args.numbers.now.items c.args.put.now e.put.now c.args.from c.args.to e.start e.removed c.requires.order (omega (arith, c.change_between-edit.ensures.fits, ap length c.deref.ensures.value, length-drop c.args.from c.args.numbers.now.items, length-take-le (c.args.to - c.args.from) (drop c.args.from c.deref.result.now) (omega (arith, length-drop c.args.from c.deref.result.now, ap length c.deref.ensures.value, c.requires.within)))) part
    ∙ sym (returns-clause-puts c)
