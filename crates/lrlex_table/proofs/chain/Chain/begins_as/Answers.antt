use Rattle.std.proofs.Common.{arith}
use Rattle.lrlex_table.proofs.chain.Chain.begins_as.Goals as goal

pub returns-in_default-clause-only : goal.returns-in_default-clause-only
returns-in_default-clause-only c held here = absurd (omega (arith, here, c.start_of.ensures.without c.in_default.is, c.args.self.now.bases.ok.0))

pub returns-in_default-clause-classes : goal.returns-in_default-clause-classes
returns-in_default-clause-classes c held here = absurd (omega (arith, here, c.start_of.ensures.without c.in_default.is, c.args.self.now.bases.ok.0))

pub returns-in_default-clause-begins : goal.returns-in_default-clause-begins
returns-in_default-clause-begins c held here = absurd (omega (arith, here, c.start_of.ensures.without c.in_default.is, c.args.self.now.bases.ok.0))
