use Rattle.std.proofs.Common.{arith}
use Rattle.lrlex_table.proofs.CountLemmas.{few_known}
use Rattle.lrlex_table.proofs.dead_ends.DeadEnds.known.Goals as goal

pub returns-clause-few : goal.returns-clause-few
returns-clause-few c =
    let self = c.args.self.now in
    omega (arith, c.len.ensures.len, few_known self.lists.now self.text.now self.known self.within c.len.ensures.unique)
