use Rattle.std.proofs.Common.{subst}
use Rattle.lrlex_rules.specs.Ids.{HaveDistinctIds}
use Rattle.lrlex_definition.proofs.rule_table.RuleTable.made.Goals as goal

pub of_parts-requires : goal.of_parts-requires
of_parts-requires g c is = subst HaveDistinctIds c.deref.ensures.value (c.have_own_ids-own_ids.ensures.distinct is)
