use Rattle.std.proofs.Common.{length, arith}
use Rattle.lrlex_table.specs.Linear.{count_of_rows}
use Rattle.lrlex_table.proofs.LinearLemmas.{few_cells}
use Rattle.lrlex_table.proofs.dead_ends.DeadEnds.looked.Goals as goal

pub returns-clause-linear : goal.returns-clause-linear
returns-clause-linear c most from place is inside =
    few_cells most from place c.args.self.now is (count_of_rows c.args.self.now.lists.now) (length c.args.self.now.text.now) c.saturating_add.result c.if-self.false
    (omega (arith, c.known.ensures.known, c.known.ensures.few)) (omega (arith, c.saturating_add.ensures))
