use Rattle.std.proofs.Common.{◌++◌, string_bytes, sym, ap, ◌∙◌, map-id}
use Rattle.std.proofs.lemmas.Iterator.{YieldsList-from_chars, YieldsList-from_take}
use Rattle.std.proofs.lemmas.Iterator.Consumers.{YieldsList-end}
use Rattle.std.specs.Char.{encode_utf8}
use Rattle.lrlex_report.specs.Carets.{shown_char, shown_line}
use Rattle.lrlex_report.proofs.CaretLemmas.{one_more}
use Rattle.lrlex_report.proofs.carets.push_first.Goals as goal

pub returns : goal.returns
returns c =
    let yields = YieldsList-from_take c.args.most (YieldsList-from_chars c.args.text.now c.utf8.text cc) cc in
    let end = YieldsList-end yields c.loop-c.yielded _ c.loop-c.yielded_by _ _ c.in-None.is c.next.ensures.steps in
    c.loop-c.invariant ∙ ap (λ cs. string_bytes c.args.out.now ++ shown_line cs) (sym (map-id c.loop-c.yielded) ∙ end.0)

pub loop-c-preserved : goal.loop-c-preserved
loop-c-preserved c =
    let shown = ap (λ x. string_bytes c.loop-c.out ++ encode_utf8 x) c.shown_char.ensures in
    one_more (λ x. encode_utf8 (shown_char x)) _ _ _ c.loop-c.yielded c.in-Some.c c.loop-c.invariant (c.in_ok-push.ensures.bytes ∙ shown)
