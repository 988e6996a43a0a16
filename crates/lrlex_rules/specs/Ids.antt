-- Token ids by name: the first rule with an id or a name, and what a map of names to ids does to rules.
use Rattle.std.specs.Prelude.{◌≡◌, ◌≢◌, ℕ, ◌≤◌, ◌==◌, Bool, false, not, ◌&&◌, List, [], map, Option, Some, None, is_some, slice_get, option_map, string_bytes}
use Rattle.std.specs.Option.{option_and_then, option_map_or}
use Rattle.std.specs.List.{find, list_any}
use Rattle.std.specs.Str.{bytes_eq}
use Rattle.std.specs.Borrow.{Bor}
use Rattle.std.specs.HashMap.{HashMap, get_by}
use Rattle.std.specs.HashSet.{HashSet, contains_by, contains_text}
use Rattle.std.specs.declared.string.String.{String}
use Rattle.lrlex_base.specs.Spans.{Span, as_span, same_span}
use Rattle.lrlex_base.specs.declared.spans.Span.{Span as TheSpan}
use Rattle.lrlex_rules.specs.Definition.{Definition, Rule}
use Rattle.lrlex_rules.specs.RuleParts.{RuleParts, as_rule, as_state}
use Rattle.lrlex_rules.specs.declared.states.StartState as start

-- what a definition says of its rules and its start states is what these say
pub record IsMadeOf {S : Type 0} (number : S → ℕ) (rs : List (RuleParts S)) (ss : List start.StartState) (d : Definition) : Type 0 where
  pub rules : d.rules ≡ map (as_rule number) rs
  pub states : d.states ≡ map as_state ss

-- the rule has the id
abbrev pub has_id : ℕ → Rule → Bool
has_id id r = option_map_or (λ own. own == id) r.id false

-- the rule has the name
abbrev pub is_named : List ℕ → Rule → Bool
is_named name r = option_map_or (λ own. bytes_eq name own) r.name false

-- the rule has the name, and it stands at the place
abbrev pub is_named_at : List ℕ → Span → Rule → Bool
is_named_at name place r = is_named name r && same_span r.name_span place

-- the rule has the id and a name
abbrev pub gives : ℕ → Rule → Bool
gives id r = has_id id r && is_some r.name

-- the name of the first such rule, if there is one
abbrev pub name_of : List Rule → ℕ → Option (List ℕ)
name_of rules id = option_and_then (λ (r : Rule). r.name) (find (gives id) rules)

-- the rule's id, if it has one, is this place, which is no greater than the greatest id
abbrev pub HasOwnId : {S : Type 0} → (S → ℕ) → (greatest : ℕ) → RuleParts S → ℕ → Type 0
HasOwnId number greatest r i = (id : _) → r.tok_id ≡ Some id → (number id ≡ i) × (i ≤ greatest)

-- the same of each rule and its place
abbrev pub HaveOwnIds : {S : Type 0} → (S → ℕ) → (greatest : ℕ) → List (RuleParts S) → Type 0
HaveOwnIds number greatest rules = (i : ℕ) (r : RuleParts _) → slice_get rules i ≡ Some r → HasOwnId number greatest r i

-- no two rules have the same id
abbrev pub HaveDistinctIds : {S : Type 0} → List (RuleParts S) → Type 0
HaveDistinctIds rules =
    (i j : ℕ) (r s : RuleParts _) (id : _) → slice_get rules i ≡ Some r → slice_get rules j ≡ Some s → r.tok_id ≡ Some id → s.tok_id ≡ Some id → i ≡ j

-- the first of the program's rules with the id, and the first with the name
abbrev pub rule_with_id : {S : Type 0} → (S → ℕ) → List (RuleParts S) → ℕ → Option (RuleParts S)
rule_with_id number rules id = find (λ r. has_id id (as_rule number r)) rules

abbrev pub rule_named : {S : Type 0} → (S → ℕ) → List (RuleParts S) → List ℕ → Option (RuleParts S)
rule_named number rules name = find (λ r. is_named name (as_rule number r)) rules

-- the id that a map of the program has for a name
abbrev pub ids_of : {S H : Type 0} → (S → ℕ) → HashMap (Bor (List ℕ)) S H → List ℕ → Option ℕ
ids_of number ids name = option_map number (get_by (λ k. bytes_eq name k.now) ids)

-- the rule with this id, or none, and nothing else changed
abbrev pub with_id : Option ℕ → Rule → Rule
with_id id r = record r { id = id }

-- the rule with the id that its name has, or none; an unnamed rule keeps its own
abbrev pub with_own_id : (List ℕ → Option ℕ) → Rule → Rule
with_own_id ids r = with_id (option_map_or ids r.name r.id) r

-- the definition whose rules have the ids of their names
abbrev pub with_ids : (List ℕ → Option ℕ) → Definition → Definition
with_ids ids d = record d { rules = map (with_own_id ids) d.rules }

-- no rule has the name, and it has an id
abbrev pub is_lacking : (List ℕ → Option ℕ) → List Rule → List ℕ → Bool
is_lacking ids rules name = is_some (ids name) && not (list_any (is_named name) rules)

-- a rule has the name, and it has no id
abbrev pub is_unused : (List ℕ → Option ℕ) → List Rule → List ℕ → Bool
is_unused ids rules name = list_any (is_named name) rules && not (is_some (ids name))

-- the same of a name at its place
abbrev pub is_unused_at : (List ℕ → Option ℕ) → List Rule → List ℕ → Span → Bool
is_unused_at ids rules name place = list_any (is_named_at name place) rules && not (is_some (ids name))

-- the set holds exactly the names that pass the test, and there is none where no name does
abbrev pub HoldsNames : {H : Type 0} → (List ℕ → Bool) → Option (HashSet (Bor (List ℕ)) H) → Type 0
HoldsNames test None = (name : List ℕ) → test name ≡ false
HoldsNames test (Some names) = (names.keys ≢ []) × ((name : List ℕ) → contains_by (λ k. bytes_eq name k.now) names ≡ test name)

-- the same of names of their own
abbrev pub HoldsTexts : {Y H : Type 0} → (List ℕ → Bool) → Option (HashSet (String Y) H) → Type 0
HoldsTexts test None = (name : List ℕ) → test name ≡ false
HoldsTexts test (Some names) = (names.keys ≢ []) × ((name : List ℕ) → contains_text names name ≡ test name)

-- the key is this name at this place
abbrev pub is_key_at : {Y : Type 0} → List ℕ → Span → String Y × TheSpan → Bool
is_key_at name place k = bytes_eq name (string_bytes k.0) && same_span (as_span k.1) place

-- the same of names with their places
abbrev pub HoldsPlaces : {Y H : Type 0} → (List ℕ → Span → Bool) → Option (HashSet (String Y × TheSpan) H) → Type 0
HoldsPlaces test None = (name : List ℕ) (place : Span) → test name place ≡ false
HoldsPlaces test (Some names) = (names.keys ≢ []) × ((name : List ℕ) (place : Span) → contains_by (is_key_at name place) names ≡ test name place)
