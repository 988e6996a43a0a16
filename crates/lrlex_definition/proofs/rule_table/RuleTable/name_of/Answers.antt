use Rattle.std.proofs.Common.{sym, subst}
use Rattle.lrlex_rules.specs.Ids.{HaveDistinctIds}
use Rattle.lrlex_definition.proofs.rule_table.RuleTable.name_of.Goals as goal

pub name_of-requires : goal.name_of-requires
name_of-requires g c is = subst HaveDistinctIds (sym c.deref.ensures.value) (c.args.self.now.distinct is)
