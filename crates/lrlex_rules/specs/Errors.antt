-- What contracts see of the error that stops lexing.
use Rattle.std.specs.Prelude.{ℕ, List, ◌++◌, codes, Option}
use Rattle.std.specs.Fmt.{decimal}
use Rattle.lrlex_base.specs.Spans.{Span, as_span}
use Rattle.lrlex_base.specs.declared.spans.Span.{Span as TheSpan}
use Rattle.lrlex_rules.specs.declared.errors.LRLexError.{LRLexError}
use Rattle.lrlex_rules.specs.declared.states.StartStateId.{StartStateId}

abbrev pub lex_error_span : LRLexError → TheSpan
lex_error_span e = e.span

abbrev pub lex_error_state : LRLexError → Option StartStateId
lex_error_state e = e.lexing_state

-- where it is, and the start state in which no rule matched, if that is why
abbrev pub error_parts : LRLexError → Span × Option StartStateId
error_parts e = (as_span (lex_error_span e), lex_error_state e)

-- what is printed of an error that stopped lexing at a place
abbrev pub stop_text : ℕ → List ℕ
stop_text at = codes "Couldn't lex input starting at byte " ++ decimal at
