use Rattle.std.proofs.Common.{◌∙◌, Some, None}
use Rattle.lrlex_rules.proofs.NameLemmas.{named}
use Rattle.lrlex_rules.proofs.names.name_of.Goals as goal

pub returns-in-Some : goal.returns-in-Some
returns-in-Some g c = c.name.ensures ∙ named g.S.Numbered.number c.args.rules.now (g.S.Numbered.number c.args.id) (Some c.in-Some.rule.now) c.in-Some.ensures

pub returns-in-None : goal.returns-in-None
returns-in-None g c = named g.S.Numbered.number c.args.rules.now (g.S.Numbered.number c.args.id) None c.in-None.ensures
