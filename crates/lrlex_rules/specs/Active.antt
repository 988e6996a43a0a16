-- Which rules are active in a start state, and what each takes of a text.
use Rattle.std.specs.Prelude.{ℕ, ◌+◌, Bool, not, ◌&&◌, ◌==◌, nat_lt, List, [], ◌∷◌, Option, Some, None, is_some, is_none, unwrap_or, if◌then◌else◌, slice_get, count_by}
use Rattle.std.specs.List.{find, list_any}
use Rattle.regex_hir.specs.Text.{is_some_and}
use Rattle.regex.specs.Patterns.{default_config}
use Rattle.lrlex_base.specs.Spans.{at_place}
use Rattle.lrlex_rules.specs.Definition.{Definition, Rule, StartState}
use Rattle.lrlex_matching.specs.Matching.{match_length}
use Rattle.lrlex_rules.specs.Patterns.{pattern_of}

-- a state has the id
abbrev pub is_state : Definition → ℕ → Bool
is_state d q = list_any (λ s. s.id == q) d.states

-- the first state with the id takes rules that list no states
abbrev pub is_inclusive : List StartState → ℕ → Bool
is_inclusive states q = is_some_and (find (λ s. s.id == q) states) (λ s. not s.exclusive)

-- the rule lists no states
abbrev pub lists_none : Rule → Bool
lists_none r = is_none (slice_get r.start_states 0)

-- the rule lists the state
abbrev pub lists_state : ℕ → Rule → Bool
lists_state q r = list_any (λ s. s == q) r.start_states

-- whether the rule is active in a state with the id that takes rules that list no states, or doesn't
abbrev pub is_active_where : Bool → ℕ → Rule → Bool
is_active_where inclusive q r = if lists_none r then inclusive else lists_state q r

-- whether the rule is active in the state
unfoldable pub is_active : List StartState → ℕ → Rule → Bool
is_active states q r = is_active_where (is_inclusive states q) q r

-- how many rules are active in the state
unfoldable pub active_count : Definition → ℕ → ℕ
active_count d q = count_by (is_active d.states q) d.rules

-- the places of the rules that pass the test, where the first stands at place k
abbrev pub places_from : (Rule → Bool) → ℕ → List Rule → List ℕ
places_from p k [] = []
places_from p k (r ∷ rs) = if p r then (k ∷ places_from p (k + 1) rs) else places_from p (k + 1) rs

-- the places of the rules that are active in the state, in order
abbrev pub active_places : List StartState → List Rule → ℕ → List ℕ
active_places states rules q = places_from (is_active states q) 0 rules

-- the numbers of two rising lists, in rising order
abbrev pub merged : List ℕ → List ℕ → List ℕ
merged [] ys = ys
merged (x ∷ xs) [] = x ∷ xs
merged (x ∷ xs) (y ∷ ys) = if nat_lt y x then y ∷ merged (x ∷ xs) ys else x ∷ merged xs (y ∷ ys)

-- how many bytes of the text the rule takes in the state: none where it is not active
unfoldable pub taken_by : Definition → ℕ → List ℕ → Rule → ℕ
taken_by d q text r = if is_active d.states q r then match_length (pattern_of r) text else 0

abbrev pub taken_by_any : Definition → ℕ → List ℕ → Option Rule → ℕ
taken_by_any d q text None = 0
taken_by_any d q text (Some r) = taken_by d q text r

-- the same of the rule at place k
abbrev pub taken : Definition → ℕ → List ℕ → ℕ → ℕ
taken d q text k = taken_by_any d q text (slice_get d.rules k)

-- what stands for a rule past the last
abbrev pub no_rule : Rule
no_rule = record {
  id = None;
  name = None;
  name_span = at_place 0;
  re_str = [];
  start_states = [];
  target = None;
  config = default_config;
}

-- the rule at place k
abbrev pub rule_at : Definition → ℕ → Rule
rule_at d k = unwrap_or (slice_get d.rules k) no_rule

-- the id of the lexemes that the rule gives: an unnamed rule gives none
abbrev pub lexeme_id : Rule → Option ℕ
lexeme_id r = if is_some r.name then r.id else None

-- a named rule with no id
abbrev pub lacks_id : Rule → Bool
lacks_id r = is_some r.name && is_none r.id

-- the rule's target is no state
abbrev pub lacks_target : Definition → Rule → Bool
lacks_target d r = is_some_and r.target (λ t. not (is_state d t.0))
