use Rattle.std.proofs.Common.{length, ap, arith}
use Rattle.lrlex_base.specs.Places.{AreBreaksOf}
use Rattle.lrlex_positions.specs.Lines.{with_newlines}
use Rattle.lrlex_positions.proofs.LineLemmas.{utf8_with}
use Rattle.lrlex_positions.proofs.PositionLemmas.{lines_known, newlines_counted}
use Rattle.lrlex_positions.proofs.positions.line_span.Goals as goal

pub returns-in-Some-clause-none : goal.returns-in-Some-clause-none
returns-in-Some-clause-none c none =
    let lines = with_newlines c.args.text.now in
    let breaks : AreBreaksOf lines c.in-Some.cache.now = c.in-Some.ensures c.args.text.now c.requires.newlines c.requires.lines in
    omega (arith, c.line_span.ensures.none.0 none, ap length breaks.1, newlines_counted lines)

pub returns-in-Some-clause-some : goal.returns-in-Some-clause-some
returns-in-Some-clause-some c =
    let lines = with_newlines c.args.text.now in
    let breaks : AreBreaksOf lines c.in-Some.cache.now = c.in-Some.ensures c.args.text.now c.requires.newlines c.requires.lines in
    lines_known c.args.text.now c.args.line c.line_span.result (c.line_span.ensures.number lines breaks) (c.line_span.ensures.whole lines breaks) (c.line_span.ensures.fits lines (utf8_with c.args.text.now c.utf8.text) breaks)
