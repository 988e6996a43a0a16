use Rattle.std.proofs.Common.{not, Some, None, ap, ◌∙◌}
use Rattle.lrlex_rules.proofs.ViewLemmas.{inclusive_as}
use Rattle.lrlex_rules.proofs.active.is_inclusive.Goals as goal

pub returns-in-Some : goal.returns-in-Some
returns-in-Some c = ap not c.exclusive.ensures ∙ inclusive_as c.args.states.now c.args.id (Some c.in-Some.state.now) c.in-Some.ensures

pub returns-in-None : goal.returns-in-None
returns-in-None c = inclusive_as c.args.states.now c.args.id None c.in-None.ensures
