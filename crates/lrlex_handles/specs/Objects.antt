-- What a handle holds, as contracts see it.
use Rattle.std.specs.Prelude.{ℕ, List, Result, Ok, Err, Vec, slice_get}
use Rattle.std.specs.Option.{option_and_then}
use Rattle.std.specs.Arc.{arc_value}
use Rattle.std.specs.String.{string_bytes}
use Rattle.std.specs.declared.alloc.Global.{Global}
use Rattle.std.specs.declared.option.Option.{Option}
use Rattle.std.specs.declared.option.Option.TheVariants.{None, Some}
use Rattle.lrlex_rules.specs.Definition.{Definition}
use Rattle.lrlex_parser.specs.declared.faults.LexBuildError.{LexBuildError}
use Rattle.lrlex_rules.specs.declared.states.StartState as start
use Rattle.lrlex.specs.Document.{lexed_bytes}
use Rattle.lrlex.specs.Scanner.{Scanned}
use Rattle.lrlex.specs.Views.{RuleTable, definition_of, definition_states}
use Rattle.lrlex_handles.specs.declared.object.Object.{Object}
use Rattle.lrlex_handles.specs.declared.object.Object.TheVariants.{Nothing, Definition as Defined, Refusal, Document, Scanner}

-- what the definition says, if there is one
abbrev pub definition_in : Option Object → Option Definition
definition_in None = None
definition_in (Some Nothing) = None
definition_in (Some (Defined d)) = Some (definition_of (λ n. n) (arc_value d))
definition_in (Some (Refusal r)) = None
definition_in (Some (Document e)) = None
definition_in (Some (Scanner s)) = None

-- the start states of the definition, if there is one
abbrev pub states_in : Option Object → Option (List start.StartState)
states_in None = None
states_in (Some Nothing) = None
states_in (Some (Defined d)) = Some (definition_states (arc_value d))
states_in (Some (Refusal r)) = None
states_in (Some (Document e)) = None
states_in (Some (Scanner s)) = None

-- the rules and start states of the definition as the program has them, if there is one
abbrev pub table_in : Option Object → Option (RuleTable ℕ)
table_in None = None
table_in (Some Nothing) = None
table_in (Some (Defined d)) = Some (arc_value d).table
table_in (Some (Refusal r)) = None
table_in (Some (Document e)) = None
table_in (Some (Scanner s)) = None

-- a refused rule text and its faults, if there is one
abbrev pub refusal_in : Option Object → Option (List ℕ × List LexBuildError)
refusal_in None = None
refusal_in (Some Nothing) = None
refusal_in (Some (Defined d)) = None
refusal_in (Some (Refusal r)) = Some (string_bytes r.rules, r.faults.items)
refusal_in (Some (Document e)) = None
refusal_in (Some (Scanner s)) = None

-- the fault at an index
abbrev pub fault_in : Option Object → ℕ → Option LexBuildError
fault_in o index = option_and_then (λ r. slice_get r.1 index) (refusal_in o)

-- what reading a rule text gave: a definition or faults
abbrev pub answer_in : Option Object → Option (Result Definition (Vec LexBuildError Global))
answer_in None = None
answer_in (Some Nothing) = None
answer_in (Some (Defined d)) = Some (Ok (definition_of (λ n. n) (arc_value d)))
answer_in (Some (Refusal r)) = Some (Err r.faults)
answer_in (Some (Document e)) = None
answer_in (Some (Scanner s)) = None

-- the document, if there is one: what its definition says, and its text
abbrev pub document_in : Option Object → Option (Definition × List ℕ)
document_in None = None
document_in (Some Nothing) = None
document_in (Some (Defined d)) = None
document_in (Some (Refusal r)) = None
document_in (Some (Document e)) = Some (definition_of (λ n. n) (arc_value e.definition), lexed_bytes e.text)
document_in (Some (Scanner s)) = None

-- the scanner, if there is one: what its definition says, its text, where it stands, and how many cells of tables it may look at
abbrev pub scanner_in : Option Object → Option Scanned
scanner_in None = None
scanner_in (Some Nothing) = None
scanner_in (Some (Defined d)) = None
scanner_in (Some (Refusal r)) = None
scanner_in (Some (Document e)) = None
scanner_in (Some (Scanner s)) = Some s
