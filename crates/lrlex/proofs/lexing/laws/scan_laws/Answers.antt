use Rattle.lrlex.proofs.ScannerLemmas.{run_of_scanned, scanned_all, scanned_front, scanned_more}
use Rattle.lrlex.proofs.lexing.laws.scan_laws.Goals as goal

pub returns-clause-front : goal.returns-clause-front
returns-clause-front g c d text most z = scanned_front d text most z

pub returns-clause-taken : goal.returns-clause-taken
returns-clause-taken g c ts s x h all = scanned_more g.S.Numbered.number ts s x h.0 h.1 h.2 all

pub returns-clause-ended : goal.returns-clause-ended
returns-clause-ended g c ts s e z h all = scanned_all g.S.Numbered.number ts s e z h all

pub returns-clause-run : goal.returns-clause-run
returns-clause-run g c d text found bounds h ts e tiling = run_of_scanned d text found bounds h ts e tiling
