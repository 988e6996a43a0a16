use Rattle.std.proofs.Common.{◌∙◌, subst}
use Rattle.lrlex_base.specs.Lexemes.{lexeme_seen}
use Rattle.lrlex.specs.Document.{IsLexedBy}
use Rattle.lrlex_handles.proofs.documents.editing.edited.Goals as goal

-- the edit keeps the definition, which is the one that lexed the text
pub invariant_of-result : goal.invariant_of-result
invariant_of-result c = record {
  lexed = subst (λ d. IsLexedBy (λ n. n) lexeme_seen d.table c.into_text-text.result)
      (c.edit-answer.ensures.definition ∙ c.of_text-document.ensures.definition ∙ c.deref.ensures) c.into_text-text.ensures.lexed;
}
