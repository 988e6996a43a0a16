-- The tables of each list of rules.
use Rattle.std.specs.Prelude.{◌≡◌, ℕ, List, [], ◌∷◌, map, max, Some, unwrap_or, vec_len, slice_get}
use Rattle.std.specs.List.{sum_by}
use Rattle.regex.specs.Patterns.{Re}
use Rattle.lrlex_rules.specs.Definition.{Rule}
use Rattle.lrlex_rules.specs.RuleParts.{RuleParts, as_rule}
use Rattle.lrlex_rules.specs.Patterns.{pattern_of}
use Rattle.lrlex_rules.specs.declared.states.StartState as start
use Rattle.lrlex_table.specs.Rows.{chain_rows}
use Rattle.lrlex_table.specs.Tables.{AreTablesOf}
use Rattle.lrlex_table.specs.declared.chain.Chain.{Chain}
use Rattle.lrlex_table.specs.declared.tables.Tables.{Tables}
use Rattle.lrlex_rules.specs.Active.{no_rule}
use Rattle.lrlex_rules.specs.RuleLists.{list_in}

-- the pattern of the rule at a place
abbrev pub pattern_in : List Rule → ℕ → Re
pattern_in rules i = pattern_of (unwrap_or (slice_get rules i) no_rule)

-- the patterns of the rules at these places
abbrev pub patterns_on : List Rule → List ℕ → List Re
patterns_on rules places = map (pattern_in rules) places

-- each list of rules has its tables at its place
abbrev pub AreServed : {S : Type 0} → List (RuleParts S) → List (List ℕ) → List Tables → Type 0
AreServed rules lists tables =
    (j : ℕ) (t : Tables) → slice_get tables j ≡ Some t → AreTablesOf (patterns_on (map (as_rule (λ _. 0)) rules) (list_in lists j)) t

-- how many tables these have, and how many rules without a table
abbrev pub count_of_tables : List Tables → ℕ
count_of_tables tables = sum_by (λ t. vec_len t.parts) tables

abbrev pub count_of_asked : List Tables → ℕ
count_of_asked tables = sum_by (λ t. vec_len t.asked) tables

-- the most tables that one of these lists has
abbrev pub most_tables : List Tables → ℕ
most_tables [] = 0
most_tables (t ∷ ts) = max (vec_len t.parts) (most_tables ts)

-- the rows that these chains are paid as
abbrev pub chains_rows : List Chain → ℕ
chains_rows chains = sum_by (λ c. chain_rows (Some c)) chains
