-- What is shown of the error that stops lexing.
use Rattle.std.specs.Prelude.{ℕ, ◌==◌, List, ◌++◌, find, Option, None, option_map, if◌then◌else◌}
use Rattle.std.specs.Option.{option_and_then}
use Rattle.lrlex_base.specs.Spans.{as_span, span_start}
use Rattle.lrlex_rules.specs.RuleParts.{as_state, state_number}
use Rattle.lrlex_rules.specs.declared.states.StartState.{StartState}
use Rattle.lrlex_rules.specs.Errors.{lex_error_span, lex_error_state}
use Rattle.lrlex_rules.specs.declared.errors.LRLexError.{LRLexError}
use Rattle.lrlex_report.specs.Encoding.{mark_note}
use Rattle.lrlex_report.specs.PlaceTexts.{nearest, place_text}
use Rattle.lrlex_report.specs.Reasons.{reason, char_at}

-- the name of the first start state with an id; `INITIAL`, whose id is 0, isn't named
abbrev pub state_name : List StartState → ℕ → Option (List ℕ)
state_name states id =
    if id == 0 then None else option_map (λ s. (as_state s).name) (find (λ s. (as_state s).id == id) states)

-- the id of the start state in which no rule matched, if that is why lexing stopped
abbrev pub error_state : LRLexError → Option ℕ
error_state e = option_map state_number (lex_error_state e)

-- why lexing stopped, with the name of the start state in which no rule matched
abbrev pub stop_message : (input : List ℕ) → LRLexError → (name : Option (List ℕ)) → List ℕ
stop_message input e name =
    let at = span_start (lex_error_span e) in
    reason (error_state e) (char_at input (nearest input at)) name ++ mark_note input at

-- what is shown of the error
abbrev pub stop_text : (file input : List ℕ) → LRLexError → (name : Option (List ℕ)) → List ℕ
stop_text file input e name = place_text file input (as_span (lex_error_span e)) (stop_message input e name)

-- the name, among these start states, of the one in which no rule matched
abbrev pub name_in : List StartState → LRLexError → Option (List ℕ)
name_in states e = option_and_then (state_name states) (error_state e)
