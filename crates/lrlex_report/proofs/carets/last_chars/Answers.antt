use Rattle.std.proofs.Common.{◌≡◌, ◌+◌, ◌∙◌, sym, ap, subst, arith, IsUtf8}
use Rattle.std.specs.Str.{chars}
use Rattle.std.proofs.lemmas.Str.{IsCharBoundary-at_seam}
use Rattle.lrlex_report.proofs.CaretLemmas.{IsBefore, before_none, before_step, last_is}
use Rattle.lrlex_report.proofs.carets.last_chars.Goals as goal

pub last-init : goal.last-init
last-init c = before_none c.args.text.now c.utf8.text

pub last-preserved : goal.last-preserved
last-preserved c =
    let text = c.args.text.now in
    let n = c.last.counter in
    let front = subst (IsBefore text n) (sym c.chars-rest.ensures.rest) c.last.invariant in
    let utf8 = subst IsUtf8 c.as_str-before.ensures c.as_str-before.utf8 in
    subst (IsBefore text (n + 1)) (sym c.as_str-before.ensures) (before_step text n c.next_back.result c.chars-rest.result c.next_back.new.self front utf8 c.next_back.ensures.steps)

pub range_from-requires : goal.range_from-requires
range_from-requires c =
    let i = c.last.invariant in
    λ _. IsCharBoundary-at_seam c.args.text.now c.last.before.now i.last i.whole i.utf8

pub returns : goal.returns
returns c =
    let text = c.args.text.now in
    let all : c.last.counter ≡ c.args.most = omega (arith, c.last.auto.counter-end, c.last-test.false) in
    ap chars c.range_from.ensures.value ∙ last_is text c.last.before.now c.args.most (subst (λ n. IsBefore text n c.last.before.now) all c.last.invariant)
