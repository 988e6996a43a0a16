-- What a definition of the program says, and what a run of it answers.
use Rattle.std.specs.Prelude.{ℕ, ◌+◌, List, option_map, Result, Ok, Err, map}
use Rattle.lrlex_base.specs.Spans.{span_start, span_end}
use Rattle.lrlex_base.specs.LexemeParts.{LexemeParts}
use Rattle.lrlex_rules.specs.Definition.{Definition}
use Rattle.lrlex_table.specs.Rows as held
use Rattle.lrlex_table.specs.declared.tables.Tables.{Tables}
use Rattle.lrlex_definition.specs.StateTables.{chains_rows}
use Rattle.lrlex.specs.Errors.{lex_error_span, lex_error_state}
use Rattle.lrlex_rules.specs.RuleParts.{RuleParts, state_number}
use Rattle.lrlex_rules.specs.Tiling.{Item, Lexeme, Error}
use Rattle.lrlex_rules.specs.declared.errors.LRLexError.{LRLexError}
use Rattle.lrlex_rules.specs.declared.states.StartState as start
use Rattle.lrlex.specs.declared.definition.non_streaming.LRNonStreamingLexerDef.{LRNonStreamingLexerDef}
pub use Rattle.lrlex_definition.specs.RuleTable.{definition_by}
pub use Rattle.lrlex_definition.specs.declared.rule_table.RuleTable.{RuleTable}

-- a definition: what its table says
abbrev pub definition_of : {L X S E : Type 0} → (S → ℕ) → LRNonStreamingLexerDef L X S E → Definition
definition_of number d = definition_by number d.table

-- its rules and its start states, as the program has them
abbrev pub definition_rules : {L X S E : Type 0} → LRNonStreamingLexerDef L X S E → List (RuleParts S)
definition_rules d = d.table.rules.items

abbrev pub definition_states : {L X S E : Type 0} → LRNonStreamingLexerDef L X S E → List start.StartState
definition_states d = d.table.start_states.items

-- the tables of each list of rules that are active in a state
abbrev pub definition_tables : {L X S E : Type 0} → LRNonStreamingLexerDef L X S E → List Tables
definition_tables d = d.table.tables.items

-- how many rows its tables and their chain hold, as a budget counts them
abbrev pub definition_rows : {L X S E : Type 0} → LRNonStreamingLexerDef L X S E → ℕ
definition_rows d = held.rows_held d.table.tables.items + chains_rows d.table.chains.items

-- an item of the program, by the number that an id stands for and what can be seen of a lexeme
abbrev pub item_of : {S X : Type 0} → (S → ℕ) → (X → LexemeParts S) → Result X LRLexError → Item
item_of number seen (Ok x) = Lexeme (number (seen x).id) (seen x).start (seen x).len (seen x).faulty
item_of number seen (Err e) =
    Error (span_start (lex_error_span e)) (span_end (lex_error_span e)) (option_map state_number (lex_error_state e))

-- the items of the program
abbrev pub items_by : {S X : Type 0} → (S → ℕ) → (X → LexemeParts S) → List (Result X LRLexError) → List Item
items_by number seen xs = map (item_of number seen) xs
