use Rattle.lrlex_rules.proofs.ViewLemmas.{placed_within, placed_past}
use Rattle.lrlex_rules.proofs.active.position_of.Goals as goal

pub returns-then-id-states : goal.returns-then-id-states
returns-then-id-states c = placed_within c.args.states.now c.args.id (c.requires c.if-placed.true) c.if-id-states.true

pub returns-else-id-states : goal.returns-else-id-states
returns-else-id-states c = placed_past c.args.states.now c.args.id (c.requires c.if-placed.true) c.if-id-states.false
