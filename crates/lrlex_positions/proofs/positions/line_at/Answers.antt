use Rattle.std.proofs.Common.{arith}
use Rattle.lrlex_positions.proofs.LineLemmas.{length-with}
use Rattle.lrlex_positions.proofs.positions.line_at.Goals as goal

pub line_in-requires : goal.line_in-requires
line_in-requires c =
    let text = c.args.text.now in
    omega (arith, (c.in-Some.ensures text c.requires.newlines c.requires.lines).0, length-with text, c.requires.within)
