use Rattle.std.proofs.Common.{length}
use Rattle.lrlex.specs.Scanner.{left}
use Rattle.lrlex.specs.Views.{definition_by}
use Rattle.lrlex_cli.proofs.SecondPassLemmas.{HasWritten}
use Rattle.lrlex_cli.proofs.scanning.second_pass.Given as goal

-- the lines so far were written, but for what waits
abbrev pub invariant-loop-left : goal.invariant-loop-left
invariant-loop-left g l =
    HasWritten g.S.Numbered.number (definition_by g.S.Numbered.number l.table) l.text l.first
    (g.W.Write.contents l.fn.out) (g.W.Write.contents l.out) l.waiting.items l.scanner l.left

abbrev pub decreases-loop-left : goal.decreases-loop-left
decreases-loop-left g l = length (left l.scanner)
