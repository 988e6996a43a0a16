-- What contracts see of errors: the one that stops lexing, and that of an edit.
use Rattle.std.specs.Prelude.{ℕ, List, codes}
use Rattle.lrlex.specs.declared.editing.document.EditError.{EditError}
use Rattle.lrlex.specs.declared.editing.document.EditError.TheVariants.{DoesNotFit, OutOfMemory}
pub use Rattle.lrlex_rules.specs.Errors.{lex_error_span, lex_error_state, error_parts, stop_text}

-- what is printed of an edit that was not made
abbrev pub edit_error_text : EditError → List ℕ
edit_error_text DoesNotFit = codes "The edit doesn't fit the text"
edit_error_text OutOfMemory = codes "Out of memory"
