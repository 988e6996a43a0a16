use Rattle.std.proofs.Common.{arith}
use Rattle.std.proofs.lemmas.Grind.{common_steps}
use Rattle.lrlex_report.proofs.warnings.kinds.push_all.Goals as goal

pub tests-preserved : goal.tests-preserved
tests-preserved c = record {
  told = grind (arith, common_steps);
  fit = λ text fits was. c.in_ok-push_when.ensures.fit text fits (c.tests.invariant.fit text fits was);
}
