use Rattle.lrlex_rules.proofs.names.rule_of.Goals as goal

pub rule_at-requires : goal.rule_at-requires
rule_at-requires g c = c.requires c.if-own_ids.true
