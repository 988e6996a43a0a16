-- Which rules are active, or have no table, in some start state.
use Rattle.std.specs.Prelude.{ℕ, ◌==◌, Bool, List, [], map, option_map, slice_get, unwrap_or}
use Rattle.std.specs.List.{list_any}
use Rattle.regex_hir.specs.Text.{is_some_and}
use Rattle.lrlex_rules.specs.Definition.{Definition, StartState}
use Rattle.lrlex_table.specs.declared.tables.Tables.{Tables}
use Rattle.lrlex_rules.specs.Active.{is_active, rule_at}
use Rattle.lrlex_rules.specs.RuleLists.{list_in}
use Rattle.lrlex_definition.specs.declared.rule_table.RuleTable.{RuleTable}

-- the rule at place k is active in some start state
unfoldable pub is_active_somewhere : Definition → ℕ → Bool
is_active_somewhere d k = list_any (λ (s : StartState). is_active d.states s.id (rule_at d k)) d.states

-- the places of the rules of a list that have no table there, as indices of the list
abbrev pub untabled_in : {S : Type 0} → RuleTable S → ℕ → List ℕ
untabled_in t j = unwrap_or (option_map (λ (x : Tables). x.asked.items) (slice_get t.tables.items j)) []

-- rule k stands at this index of the list
abbrev pub stands_at : List ℕ → ℕ → ℕ → Bool
stands_at places k i = is_some_and (slice_get places i) (λ p. p == k)

-- the rule at place k has no table in some start state, so that `regex` matches it there
abbrev pub is_asked_somewhere : {S : Type 0} → RuleTable S → ℕ → Bool
is_asked_somewhere t k = list_any (λ j. list_any (stands_at (list_in (map (λ v. v.items) t.lists.items) j) k) (untabled_in t j)) t.list_at.items
