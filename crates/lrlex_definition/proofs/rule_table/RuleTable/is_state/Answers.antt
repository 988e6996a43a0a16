use Rattle.std.proofs.Common.{◌==◌, sym, ◌∙◌}
use Rattle.lrlex_rules.specs.RuleParts.{as_state}
use Rattle.lrlex_rules.proofs.ViewLemmas.{list_any-map}
use Rattle.lrlex_definition.proofs.rule_table.RuleTable.is_state.Goals as goal

pub returns : goal.returns
returns g c = rw c.deref.ensures.value at c.has_state.ensures ∙ sym (list_any-map as_state (λ s. s.id == c.args.id) c.args.self.now.start_states.items)
