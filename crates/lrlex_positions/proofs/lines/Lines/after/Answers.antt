use Rattle.std.proofs.Common.{◌≡◌, arith}
use Rattle.lrlex_positions.specs.Lines.{with_newlines}
use Rattle.lrlex_positions.proofs.LineLemmas.{lines_of_newlines, none_after_edit}
use Rattle.lrlex_positions.proofs.lines.Lines.after.Goals as goal

pub returns-then-not-has_lone_return : goal.returns-then-not-has_lone_return
returns-then-not-has_lone_return c =
    let old = c.requires.0 in
    let removed = c.args.edit.now.removed in
    let put = c.args.edit.now.put.now in
    let none : with_newlines old ≡ old = c.requires.1.0 c.in-OfNewlines.is in
    lines_of_newlines c.args.text.now
    (none_after_edit old put c.args.text.now removed.start removed.end none (omega (arith, removed.in_order)) c.requires.2 c.requires.3
    (λ i h l. c.has_lone_return.ensures c.if-not-has_lone_return.true i (omega (arith, h, c.start-start.ensures, c.saturating_sub.ensures)) (omega (arith, l, c.start-start.ensures))))
