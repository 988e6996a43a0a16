use Rattle.lrlex_definition.proofs.Parted.{same_definition}
use Rattle.lrlex_definition.proofs.rule_table.RuleTable.within.Goals as goal

pub returns-clause-same : goal.returns-clause-same
returns-clause-same g c = same_definition g.S.Numbered.number c.in_ok-made.field-0 c.args.self c.in_ok-made.ensures.rules c.in_ok-made.ensures.states c.in_ok-made.ensures.flags
