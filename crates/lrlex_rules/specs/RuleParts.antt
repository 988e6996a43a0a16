-- What a rule and a start state of the program say.
use Rattle.std.specs.Prelude.{ℕ, Option, List, option_map, string_bytes}
use Rattle.regex.specs.Patterns.{Config}
use Rattle.lrlex_base.specs.Spans.{Span, as_span}
use Rattle.lrlex_rules.specs.Definition.{Rule, StartState}
use Rattle.lrlex_rules.specs.declared.states.StartState as start
use Rattle.lrlex_rules.specs.declared.states.StartStateOperation.{StartStateOperation}
use Rattle.lrlex_rules.specs.declared.states.StartStateId.{StartStateId}

-- what a rule of the program says, and how many bytes its compiled pattern takes, as `regex` counts them for its limit
pub record RuleParts (S : Type 0) : Type 0 where
  pub tok_id : Option S
  pub name : Option (List ℕ)
  pub name_span : Span
  pub re_str : List ℕ
  pub start_states : List ℕ
  pub target : Option (ℕ × StartStateOperation)
  pub config : Config
  pub size : ℕ

-- the whole rule, where `number` gives the number that an id stands for
abbrev pub as_rule : {S : Type 0} → (S → ℕ) → RuleParts S → Rule
as_rule number r = record {
  id = option_map number r.tok_id;
  name = r.name;
  name_span = r.name_span;
  re_str = r.re_str;
  start_states = r.start_states;
  target = r.target;
  config = r.config;
}

abbrev pub as_state : start.StartState → StartState
as_state s = record { id = s.id; name = string_bytes s.name; name_span = as_span s.name_span; exclusive = s.exclusive }

abbrev pub state_number : StartStateId → ℕ
state_number s = s.number
