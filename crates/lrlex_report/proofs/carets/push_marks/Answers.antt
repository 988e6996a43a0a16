use Rattle.std.proofs.Common.{◌++◌, replicate, string_bytes, sym, ap, ◌∙◌, map-id}
use Rattle.std.proofs.lemmas.Iterator.{YieldsList-from_chars, YieldsList-from_take}
use Rattle.std.proofs.lemmas.Iterator.Consumers.{YieldsList-end}
use Rattle.lrlex_report.specs.Carets.{columns, marks}
use Rattle.lrlex_report.proofs.CaretLemmas.{one_more}
use Rattle.lrlex_report.proofs.carets.push_marks.Goals as goal

pub returns : goal.returns
returns c =
    let yields = YieldsList-from_take c.args.most (YieldsList-from_chars c.args.part.now c.utf8.part cc) cc in
    let end = YieldsList-end yields c.loop-c.yielded _ c.loop-c.yielded_by _ _ c.in-None.is c.next.ensures.steps in
    c.loop-c.invariant ∙ ap (λ cs. string_bytes c.args.out.now ++ marks cs) (sym (map-id c.loop-c.yielded) ∙ end.0)

pub loop-c-preserved : goal.loop-c-preserved
loop-c-preserved c =
    let wide = ap (λ n. string_bytes c.loop-c.out ++ replicate n 94) c.columns.ensures in
    one_more (λ x. replicate (columns x) 94) _ _ _ c.loop-c.yielded c.in-Some.c c.loop-c.invariant (c.in_ok-push_times.ensures ∙ wide)
