use Rattle.std.proofs.Common.{refl, length, sym, ap, subst, arith}
use Rattle.lrlex_positions.specs.Lines.{with_newlines, IsLineOf}
use Rattle.lrlex_positions.proofs.LineLemmas.{length-with, utf8_with}
use Rattle.lrlex_positions.proofs.PositionLemmas.{line_known, line_of_cache, newlines_counted, count_rises}
use Rattle.lrlex_positions.proofs.positions.line_in.Goals as goal

pub returns-in-Some : goal.returns-in-Some
returns-in-Some c text u breaks =
    let lines = with_newlines text in
    let s = c.in-Some.span in
    let line = line_known text c.line_at-line.result s (c.in-Some.ensures.number lines breaks) (c.in-Some.ensures.whole lines breaks) (c.in-Some.ensures.fits lines (utf8_with text u) breaks) in
    subst (IsLineOf text c.args.at c.line_at-line.result) (sym c.start-begin.ensures)
    (line_of_cache text c.args.at c.line_at-line.result s.start s.end (omega (arith, c.requires, breaks.0, length-with text)) (c.line_at-line.ensures lines breaks) line)

pub returns-in-None : goal.returns-in-None
returns-in-None c text u breaks =
    let lines = with_newlines text in
    absurd (omega (arith, c.in-None.ensures.none.0 refl, ap length breaks.1, c.line_at-line.ensures lines breaks, count_rises lines c.args.at, newlines_counted lines))
