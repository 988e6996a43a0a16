-- What a lexer is made of: start states, rules and flags. A rule text says one, and lexing goes by one.
use Rattle.std.specs.Prelude.{ℕ, Bool, List, Option}
use Rattle.regex.specs.Patterns.{Config}
use Rattle.lrlex_base.specs.Spans.{Span}
use Rattle.lrlex_rules.specs.declared.flags.LexFlags.{LexFlags}
use Rattle.lrlex_rules.specs.declared.states.StartStateOperation.{StartStateOperation}

-- a start state; only rules that list an exclusive one are active in it
pub record StartState : Type 0 where
  pub id : ℕ
  pub name : List ℕ
  pub name_span : Span
  pub exclusive : Bool

-- A rule. Its id is the value of its token id, its start states are ids, and its target is a state's id with what
-- the rule does to the stack of states. `regex` reads its pattern, `re_str`, under the options in `config`.
pub record Rule : Type 0 where
  pub id : Option ℕ
  pub name : Option (List ℕ)
  pub name_span : Span
  pub re_str : List ℕ
  pub start_states : List ℕ
  pub target : Option (ℕ × StartStateOperation)
  pub config : Config

-- a definition; none of its flags is unset that has a default
pub record Definition : Type 0 where
  pub states : List StartState
  pub rules : List Rule
  pub flags : LexFlags
