-- What holds of each definition that a rule text makes.
use Rattle.std.specs.Prelude.{◌≡◌, ◌≢◌, ℕ, suc, ◌<◌, Some, List, [], slice_get, slice_range}
use Rattle.lrlex_base.specs.Spans.{Span}
use Rattle.lrlex_rules.specs.Definition.{StartState, Rule, Definition}
use Rattle.lrlex_rules.specs.Flags.{has_posix_escapes}
use Rattle.lrlex_parser.specs.Escape.{unescape}

-- the rule at each place has the place as its id, and so has the state at each place
abbrev pub RuleIdsArePlaces : Definition → Type 0
RuleIdsArePlaces d = (k : ℕ) (r : Rule) → slice_get d.rules k ≡ Some r → r.id ≡ Some k

abbrev pub StateIdsArePlaces : Definition → Type 0
StateIdsArePlaces d = (k : ℕ) (x : StartState) → slice_get d.states k ≡ Some x → x.id ≡ k

-- no two rules have one name, and no two states have
abbrev pub RuleNamesDiffer : Definition → Type 0
RuleNamesDiffer d = (j k : ℕ) (a b : Rule) (m n : List ℕ) → j < k → slice_get d.rules j ≡ Some a → slice_get d.rules k ≡ Some b → a.name ≡ Some m → b.name ≡ Some n → m ≢ n

abbrev pub StateNamesDiffer : Definition → Type 0
StateNamesDiffer d = (j k : ℕ) (a b : StartState) → j < k → slice_get d.states j ≡ Some a → slice_get d.states k ≡ Some b → a.name ≢ b.name

-- the text at this span is the name
abbrev pub IsNameAt : List ℕ → Span → List ℕ → Type 0
IsNameAt text span name = slice_range text span.start span.end ≡ name

-- the name of each rule that has one stands in the text at its span, and so does the name of each state but the first
abbrev pub RuleNamesStand : List ℕ → Definition → Type 0
RuleNamesStand text d = (k : ℕ) (r : Rule) (n : List ℕ) → slice_get d.rules k ≡ Some r → r.name ≡ Some n → IsNameAt text r.name_span n

abbrev pub StateNamesStand : List ℕ → Definition → Type 0
StateNamesStand text d = (k : ℕ) (x : StartState) → slice_get d.states (suc k) ≡ Some x → IsNameAt text x.name_span x.name

-- the pattern of a rule without start states has no escape left to rewrite
abbrev pub PatternsAreRewritten : Definition → Type 0
PatternsAreRewritten d = (k : ℕ) (r : Rule) → slice_get d.rules k ≡ Some r → r.start_states ≡ [] → unescape (has_posix_escapes d.flags) r.re_str ≡ r.re_str

-- all of these
pub record IsLawful (text : List ℕ) (d : Definition) : Type 0 where
  pub rule_ids : RuleIdsArePlaces d
  pub state_ids : StateIdsArePlaces d
  pub rule_names : RuleNamesDiffer d
  pub state_names : StateNamesDiffer d
  pub rule_names_stand : RuleNamesStand text d
  pub state_names_stand : StateNamesStand text d
  pub patterns : PatternsAreRewritten d
