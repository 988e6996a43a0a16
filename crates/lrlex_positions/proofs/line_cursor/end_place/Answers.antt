use Rattle.std.proofs.Common.{rules, ◌≡◌, ◌+◌, length, sym, ap, ◌∙◌, arith}
use Rattle.std.specs.Char.{len_utf8}
use Rattle.std.proofs.lemmas.List.{length-drop}
use Rattle.lrlex_base.specs.Places.{place_of}
use Rattle.lrlex_positions.proofs.LineCursorLemmas.{passed, short}
use Rattle.lrlex_positions.proofs.line_cursor.end_place.Goals as goal

pub loop-c-init : goal.loop-c-init
loop-c-init c = (c.args.from, c.requires.from, search rules, c.requires.place)

pub overflow_add-line : goal.overflow_add-line
overflow_add-line c =
    let i = c.loop-c.invariant in
    omega (arith, ap (λ p. p.0) i.3, (short c.args.text.now i.0 c.utf8.text i.1).0, i.1.0)

pub loop-c-preserved-then-c-eq10 : goal.loop-c-preserved-then-c-eq10
loop-c-preserved-then-c-eq10 c =
    let i = c.loop-c.invariant in
    let step = passed c.args.text.now i.0 c.in-Some.c _ c.utf8.text i.1 (i.2 ∙ c.in-Some.ensures.steps.0) in
    (i.0 + len_utf8 c.in-Some.c, step.fits, step.left, ap (λ p. (p.0 + 1, 1)) i.3 ∙ sym (step.newline c.if-c-eq10.true))

pub overflow_add-column : goal.overflow_add-column
overflow_add-column c =
    let i = c.loop-c.invariant in
    omega (arith, ap (λ p. p.1) i.3, (short c.args.text.now i.0 c.utf8.text i.1).1, i.1.0)

pub loop-c-preserved : goal.loop-c-preserved
loop-c-preserved c =
    let i = c.loop-c.invariant in
    let step = passed c.args.text.now i.0 c.in-Some.c _ c.utf8.text i.1 (i.2 ∙ c.in-Some.ensures.steps.0) in
    (i.0 + len_utf8 c.in-Some.c, step.fits, step.left, ap (λ p. (p.0, p.1 + 1)) i.3 ∙ sym (step.other c.if-c-eq10.false))

pub returns : goal.returns
returns c =
    let i = c.loop-c.invariant in
    let text = c.args.text.now in
    let all : i.0 ≡ length text = omega (arith, i.1.0, ap length i.2, length-drop i.0 text, c.in-None.ensures.steps.0.0) in
    i.3 ∙ ap (place_of text) all
