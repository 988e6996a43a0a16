use Rattle.std.proofs.Common.{length}
use Rattle.lrlex.specs.Scanner.{left}
use Rattle.lrlex_handles.proofs.LexemeLemmas.{AreSoFar}
use Rattle.lrlex_handles.proofs.filling.fill.Given as goal

-- the lexemes so far are written and counted
abbrev pub invariant-tiles : goal.invariant-tiles
invariant-tiles l = AreSoFar l.fn.scanner l.scanner l.fn.tokens l.tokens l.count

abbrev pub decreases-tiles : goal.decreases-tiles
decreases-tiles l = length (left l.scanner)
