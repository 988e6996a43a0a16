use Rattle.lrlex_rules.proofs.ViewLemmas.{placed_test}
use Rattle.lrlex_rules.proofs.active.has_state.Goals as goal

pub returns-then-placed : goal.returns-then-placed
returns-then-placed c = placed_test c.args.states.now c.args.id (c.requires c.if-placed.true)
