use Rattle.std.proofs.Common.{◌++◌, string_bytes, sym, ap, ◌∙◌, map-id}
use Rattle.std.proofs.lemmas.Iterator.{YieldsList-from_chars}
use Rattle.std.proofs.lemmas.Iterator.Consumers.{YieldsList-end}
use Rattle.lrlex_report.specs.Carets.{padding, under}
use Rattle.lrlex_report.proofs.CaretLemmas.{one_more}
use Rattle.lrlex_report.proofs.carets.push_under_each.Goals as goal

pub returns : goal.returns
returns c =
    let yields = YieldsList-from_chars c.args.text.now c.utf8.text cc in
    let end = YieldsList-end yields c.loop-c.yielded _ c.loop-c.yielded_by _ _ c.in-None.is c.next.ensures.steps in
    c.loop-c.invariant ∙ ap (λ cs. string_bytes c.args.out.now ++ padding cs) (sym (map-id c.loop-c.yielded) ∙ end.0)

pub loop-c-preserved : goal.loop-c-preserved
loop-c-preserved c = one_more under _ _ _ c.loop-c.yielded c.in-Some.c c.loop-c.invariant c.in_ok-push_under.ensures
