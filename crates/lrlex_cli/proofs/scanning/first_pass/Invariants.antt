use Rattle.std.proofs.Common.{length}
use Rattle.lrlex.specs.Scanner.{left}
use Rattle.lrlex_cli.proofs.FirstPassLemmas.{IsSoFar}
use Rattle.lrlex_cli.proofs.scanning.first_pass.Given as goal

-- the lexemes so far are counted
abbrev pub invariant-tiles : goal.invariant-tiles
invariant-tiles g l = IsSoFar l.fn.scanner l.scanner l.lexemes

abbrev pub decreases-tiles : goal.decreases-tiles
decreases-tiles g l = length (left l.scanner)
