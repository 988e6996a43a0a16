-- What a rule table says, and what it holds of each start state.
use Rattle.std.specs.Prelude.{◌≡◌, ◌==◌, ℕ, length, map, Option, Some, option_map, option_and_then, unwrap_or, slice_get}
use Rattle.std.specs.List.{position}
use Rattle.lrlex_rules.specs.Definition.{Definition}
use Rattle.lrlex_rules.specs.RuleParts.{as_rule, as_state}
use Rattle.lrlex_table.specs.Tables.{AreTablesOf}
use Rattle.lrlex_table.specs.declared.tables.Tables.{Tables}
use Rattle.lrlex_rules.specs.Active.{active_places}
use Rattle.lrlex_rules.specs.RuleLists.{list_in}
use Rattle.lrlex_definition.specs.StateTables.{patterns_on}
use Rattle.lrlex_definition.specs.declared.rule_table.RuleTable.{RuleTable}
use Rattle.lrlex_definition.specs.declared.rule_table.StateRules.{StateRules}

-- what a rule table says, where `number` gives the number that an id stands for
abbrev pub definition_by : {S : Type 0} → (S → ℕ) → RuleTable S → Definition
definition_by number t = record {
  states = map as_state t.start_states.items;
  rules = map (as_rule number) t.rules.items;
  flags = t.flags;
}

-- the tables of the first state with the id
abbrev pub tables_in : {S : Type 0} → RuleTable S → ℕ → Option Tables
tables_in d q =
    option_and_then (λ i. option_and_then (slice_get d.tables.items) (slice_get d.list_at.items i)) (position (λ s. (as_state s).id == q) d.start_states.items)

-- how many of the rules that are active in the state these leave out: each is asked by itself
unfoldable pub untabled_count : {S : Type 0} → RuleTable S → ℕ → ℕ
untabled_count d q = unwrap_or (option_map (λ t. length t.asked.items) (tables_in d q)) 0

-- these are the rules that are active in state q of the definition, and their tables
pub record AreOf {S : Type 0} (number : S → ℕ) (d : RuleTable S) (q : ℕ) (rules : StateRules) : Type 0 where
  pub active : rules.active.now ≡ active_places (definition_by number d).states (definition_by number d).rules q
  pub tables : ∥ AreTablesOf (patterns_on (definition_by number d).rules (active_places (definition_by number d).states (definition_by number d).rules q)) rules.tables.now ∥₁
  pub list : slice_get d.tables.items rules.list ≡ Some rules.tables.now
  pub own : rules.active.now ≡ list_in (map (λ v. v.items) d.lists.items) rules.list
  pub untabled : length rules.tables.now.asked.items ≡ untabled_count d q
