-- What contracts see of a lexer that has its whole text.
use Rattle.std.specs.Prelude.{ℕ, List, Result}
use Rattle.lrlex_rules.specs.declared.errors.LRLexError.{LRLexError}

-- its items, in order, and the text that they were found in
pub record Held (X : Type 0) : Type 0 where
  pub items : List (Result X LRLexError)
  pub text : List ℕ

abbrev pub lexer_items : {X : Type 0} → Held X → List (Result X LRLexError)
lexer_items l = l.items

abbrev pub lexer_text : {X : Type 0} → Held X → List ℕ
lexer_text l = l.text
