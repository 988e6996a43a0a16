use Rattle.std.proofs.Common.{arith}
use Rattle.std.proofs.lemmas.Grind.{common_steps}
use Rattle.lrlex_report.proofs.warnings.push_states.Goals as goal

pub loop-state-preserved : goal.loop-state-preserved
loop-state-preserved g c = record {
  told = grind (arith, common_steps);
  fit = λ was. c.in_ok-push_state.ensures.fit (c.loop-state.invariant.fit was);
}
