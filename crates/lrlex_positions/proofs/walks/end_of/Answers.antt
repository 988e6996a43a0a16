use Rattle.std.proofs.Common.{◌≡◌, length, get_or, sym, ◌∙◌, ap, subst, arith}
use Rattle.lrlex_base.specs.Places.{is_newline}
use Rattle.lrlex_positions.specs.Lines.{with_newlines}
use Rattle.lrlex_positions.proofs.LineLemmas.{first_end}
use Rattle.lrlex_positions.proofs.walks.end_of.Goals as goal

pub returns-then-ends_line : goal.returns-then-ends_line
returns-then-ends_line c =
    let text = c.args.text.now in
    let long = ap length c.as_bytes-bytes.ensures.value in
    let told : c.ends_line.result ≡ is_newline (get_or (with_newlines text) c.loop-at.at 0) =
    subst (λ t. c.ends_line.result ≡ is_newline (get_or (with_newlines t) c.loop-at.at 0)) c.as_bytes-bytes.ensures.value c.ends_line.ensures in
    first_end text c.args.begin c.loop-at.at (omega (arith, c.loop-at.auto.at)) (omega (arith, c.loop-at-test.true, long)) c.loop-at.invariant (λ _. sym told ∙ c.if-ends_line.true)

pub returns : goal.returns
returns c =
    let text = c.args.text.now in
    let long = ap length c.as_bytes-bytes.ensures.value in
    let at = length c.as_bytes-bytes.result.now in
    first_end text c.args.begin at (omega (arith, long, c.requires)) (omega (arith, long)) (λ i h l. c.loop-at.invariant i h (omega (arith, l, c.loop-at-test.false))) (λ l. absurd (omega (arith, l, long)))
