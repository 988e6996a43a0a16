use Rattle.lrlex_cli.proofs.WritingLemmas.{some_written}
use Rattle.lrlex_cli.proofs.program.refuse.Goals as goal

pub returns-clause-line : goal.returns-clause-line
returns-clause-line g c = some_written _ _ _ _ c.write_fault-ignored.ensures
