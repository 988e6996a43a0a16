use Rattle.std.proofs.Common.{not, sym, ap, ◌∙◌}
use Rattle.lrlex_rules.specs.RuleParts.{as_rule}
use Rattle.lrlex.specs.Ids.{is_named}
use Rattle.lrlex_rules.proofs.ViewLemmas.{list_any-map}
use Rattle.lrlex_handles.proofs.ids.is_missing.Goals as goal

pub returns : goal.returns
returns c = ap not (c.is_there.ensures ∙ sym (list_any-map (as_rule (λ n. n)) (is_named c.args.name.now) c.args.rules.now))
