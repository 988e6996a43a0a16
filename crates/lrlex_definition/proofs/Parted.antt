-- A definition and its parts.
use Rattle.std.proofs.Common.{◌≡◌, ℕ, ◌<◌, length, get_or, Option, unwrap_or, ap}
use Rattle.lrlex_rules.specs.Active.{no_rule, rule_at}
use Rattle.lrlex_rules.specs.Definition.{Rule}
use Rattle.lrlex_rules.specs.RuleParts.{RuleParts, as_rule}
use Rattle.lrlex_rules.proofs.ViewLemmas.{rule_at_place}
use Rattle.lrlex_definition.specs.RuleTable.{definition_by}
use Rattle.lrlex_definition.specs.declared.rule_table.RuleTable.{RuleTable}

-- the same parts make the same definition
pub same_definition : {S : Type 0} (number : S → ℕ) (a b : RuleTable S) → a.rules ≡ b.rules → a.start_states ≡ b.start_states → a.flags ≡ b.flags →
    definition_by number a ≡ definition_by number b
same_definition number a b rules states flags = simp (rules, states, flags)

-- the rule at a place
pub rule_read : {S : Type 0} (number : S → ℕ) (d : RuleTable S) (i : ℕ) (r : RuleParts S) →
    i < length d.rules.items → r ≡ get_or d.rules.items i r → rule_at (definition_by number d) i ≡ as_rule number r
rule_read number d i r within read = ap (λ (o : Option Rule). unwrap_or o no_rule) (rule_at_place number d.rules.items i r within read)
