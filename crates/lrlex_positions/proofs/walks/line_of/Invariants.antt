-- the line of `i`
use Rattle.std.proofs.Common.{◌≤◌}
use Rattle.lrlex_positions.specs.Lines.{IsLineOf}
use Rattle.lrlex_positions.proofs.walks.line_of.Given as goal

abbrev pub invariant-loop-i : goal.invariant-loop-i
invariant-loop-i l = (l.line ≤ l.i) × IsLineOf l.text l.i l.line l.begin
