-- The lexer's items are those of the run, over the run's text.
use Rattle.std.proofs.Common.{◌∙◌, subst, All, IfOk, Result, Ok, Err}
use Rattle.lrlex.specs.ItemLaws.{FitsText, AreItemsOf}
use Rattle.lrlex.specs.Reach.{IsRun}
use Rattle.lrlex.specs.Views.{definition_of, items_by}
use Rattle.lrlex.specs.Lexer.{lexer_items, lexer_text}
use Rattle.lrlex.proofs.definition.non_streaming.LRNonStreamingLexerDef.lexer.Goals as goal

both : {A E : Type 0} (P Q R : A → Type 0) → ((x : A) → P x → Q x → R x) → (r : Result A E) → IfOk r P → IfOk r Q → IfOk r R
both P Q R f (Ok x) p q = f x p q
both P Q R f (Err e) p q = tt

pub returns-clause-run : goal.returns-clause-run
returns-clause-run g c =
    let r = c.in_ok-run.field-0 in
    both _ _ _ (λ lexer text run. (
      r.boundaries,
      subst (λ t. IsRun (definition_of g.L.StorageT.Numbered.number c.args.self.now) t (items_by g.L.StorageT.Numbered.number g.L.LexemeT.Lexeme.seen (lexer_items lexer)) r.boundaries) (text ∙ c.in_ok-run.ensures.text)
          (subst (λ d. IsRun (definition_of g.L.StorageT.Numbered.number d) (lexer_text lexer) (items_by g.L.StorageT.Numbered.number g.L.LexemeT.Lexeme.seen (lexer_items lexer)) r.boundaries) c.in_ok-run.ensures.definition run),
    ))
    c.into_lexer.result c.into_lexer.ensures.text c.into_lexer.ensures.run

pub returns-clause-fit : goal.returns-clause-fit
returns-clause-fit g c =
    both _ _ _ (λ lexer text fit.
    subst (λ t. All (FitsText t) (items_by g.L.StorageT.Numbered.number g.L.LexemeT.Lexeme.seen (lexer_items lexer))) (text ∙ c.in_ok-run.ensures.text) fit)
    c.into_lexer.result c.into_lexer.ensures.text c.into_lexer.ensures.fit

pub returns-clause-laws : goal.returns-clause-laws
returns-clause-laws g c =
    let number = g.L.StorageT.Numbered.number in
    let seen = g.L.LexemeT.Lexeme.seen in
    both _ _ _ (λ lexer text laws.
    subst (λ t. AreItemsOf (definition_of number c.args.self.now) t (items_by number seen (lexer_items lexer))) (text ∙ c.in_ok-run.ensures.text)
    (subst (λ d. AreItemsOf (definition_of number d) (lexer_text lexer) (items_by number seen (lexer_items lexer))) c.in_ok-run.ensures.definition laws))
    c.into_lexer.result c.into_lexer.ensures.text c.into_lexer.ensures.laws
