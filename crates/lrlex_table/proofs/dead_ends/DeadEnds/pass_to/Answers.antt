use Rattle.std.proofs.Common.{length, ap, arith}
use Rattle.lrlex_table.proofs.AheadLemmas.{ends_within}
use Rattle.lrlex_table.proofs.dead_ends.DeadEnds.pass_to.Goals as goal

pub passed-init : goal.passed-init
passed-init c = c.args.self.now.marked.2

pub invariant_of-self : goal.invariant_of-self
invariant_of-self c =
    let self = c.args.self.now in
    record {
      right = self.right;
      up_to = self.up_to;
      within = self.within;
      marked = (self.marked.0, self.marked.1, c.passed.invariant);
      won = self.won;
      chained = self.chained;
    }

pub overflow_add-begin : goal.overflow_add-begin
overflow_add-begin c =
    let self = c.args.self.now in
    let a = self.ahead in
    omega (arith, ends_within self.text.now a c.passed.at c.index.result.now self.marked (omega (arith, c.passed-test.true)) c.index.ensures, ap length c.requires.text)
