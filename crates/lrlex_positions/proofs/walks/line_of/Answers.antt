use Rattle.std.proofs.Common.{◌≡◌, ◌+◌, ◌<◌, length, get_or, sym, ◌∙◌, subst, arith}
use Rattle.lrlex_base.specs.Places.{is_newline}
use Rattle.lrlex_positions.specs.Lines.{with_newlines, IsLineOf}
use Rattle.lrlex_positions.proofs.LineLemmas.{line_start, line_ends, line_goes_on}
use Rattle.lrlex_positions.proofs.walks.line_of.Goals as goal
use Rattle.lrlex_positions.proofs.walks.line_of.Goals.{then-ends_line, else-ends_line}

pub loop-i-init : goal.loop-i-init
loop-i-init c = (omega arith, line_start c.args.text.now)

pub loop-i-preserved : goal.loop-i-preserved
loop-i-preserved c =
    let text = c.args.text.now in
    let i = c.loop-i.i in
    let in_text : i < length text = omega (arith, c.loop-i-test.true, c.requires) in
    let told : c.ends_line.result ≡ is_newline (get_or (with_newlines text) i 0) =
    subst (λ t. c.ends_line.result ≡ is_newline (get_or (with_newlines t) i 0)) c.as_bytes-bytes.ensures.value c.ends_line.ensures in
    elim c.if-ends_line.branch [
      | then-ends_line w ↦ (
        omega (arith, w.line-is, c.loop-i.invariant.0),
        subst (λ n. IsLineOf text (i + 1) n c.if-ends_line.begin) (sym w.line-is)
            (subst (λ b. IsLineOf text (i + 1) (c.loop-i.line + 1) b) (sym w.begin-is) (line_ends text i c.loop-i.line c.loop-i.begin in_text (sym told ∙ w.if-ends_line.true) c.loop-i.invariant.1)),
      )
      | else-ends_line w ↦ (
        omega (arith, w.line-is, c.loop-i.invariant.0),
        subst (λ n. IsLineOf text (i + 1) n c.if-ends_line.begin) (sym w.line-is)
            (subst (λ b. IsLineOf text (i + 1) c.loop-i.line b) (sym w.begin-is) (line_goes_on text i c.loop-i.line c.loop-i.begin in_text (sym told ∙ w.if-ends_line.false) c.loop-i.invariant.1)),
      )
    ]
