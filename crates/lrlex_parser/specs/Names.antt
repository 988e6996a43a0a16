-- Where in a list of states or of rules each name is.
use Rattle.std.specs.Prelude.{◌≡◌, ℕ, Bool, false, if◌then◌else◌, Option, Some, None, List, string_bytes}
use Rattle.std.specs.Option.{option_map_or, option_or}
use Rattle.std.specs.List.{position}
use Rattle.std.specs.Ordering.{nat_cmp}
use Rattle.std.specs.Cmp.Lexicographic.{slice_cmp}
use Rattle.std.specs.Str.{bytes_eq}
use Rattle.std.specs.BTreeMap.{BTreeMap, get_by}
use denote.Ref.{Bor}
use Rattle.lrlex_rules.specs.RuleParts.{RuleParts}
use Rattle.lrlex_rules.specs.declared.states.StartState as start

-- the name of a rule, if it has one, and that of a start state
abbrev pub rule_name : {S : Type 0} → RuleParts S → Option (List ℕ)
rule_name r = r.name

abbrev pub state_name : start.StartState → Option (List ℕ)
state_name s = Some (string_bytes s.name)

-- whether a name, if there is one, is this
abbrev pub is_name : List ℕ → Option (List ℕ) → Bool
is_name q name = option_map_or (λ (n : List ℕ). bytes_eq n q) name false

-- the index for this name of what has that name, if it has one
abbrev pub index_if_named : Option (List ℕ) → ℕ → List ℕ → Option ℕ
index_if_named name place q = if is_name q name then Some place else None

-- the index that a map has for a name
abbrev pub index_of_name : BTreeMap (Bor (List ℕ)) ℕ → List ℕ → Option ℕ
index_of_name places q = get_by (λ k. slice_cmp nat_cmp q k.now) places

-- the place is noted for this name, if it is one and has no place yet, and nothing else changes
abbrev pub NotesName : BTreeMap (Bor (List ℕ)) ℕ → BTreeMap (Bor (List ℕ)) ℕ → Option (List ℕ) → ℕ → Type 0
NotesName old new name place = (q : List ℕ) → index_of_name new q ≡ option_or (index_of_name old q) (index_if_named name place q)

abbrev pub KeepsNames : BTreeMap (Bor (List ℕ)) ℕ → BTreeMap (Bor (List ℕ)) ℕ → Type 0
KeepsNames old new = (q : List ℕ) → index_of_name new q ≡ index_of_name old q

-- for each name the map has the place of the first of these that has it
abbrev pub ArePlaces : {X : Type 0} → (X → Option (List ℕ)) → BTreeMap (Bor (List ℕ)) ℕ → List X → Type 0
ArePlaces name places xs = (q : List ℕ) → index_of_name places q ≡ position (λ x. is_name q (name x)) xs
