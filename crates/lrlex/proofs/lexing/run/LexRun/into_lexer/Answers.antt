use Rattle.std.proofs.Common.{sym, subst, All}
use Rattle.lrlex.specs.ItemLaws.{FitsText, AreItemsOf}
use Rattle.lrlex.specs.LexRun.{Run}
use Rattle.lrlex.specs.Reach.{IsRun}
use Rattle.lrlex.specs.Views.{definition_of, items_by}
use Rattle.lrlex.proofs.ItemLemmas.{known_run, fit_the_text, are_items}
use Rattle.lrlex.proofs.lexing.run.LexRun.into_lexer.Goals as goal

pub returns-clause-run : goal.returns-clause-run
returns-clause-run g c =
    let s = c.self.inside in
    let d = definition_of g.L.StorageT.Numbered.number s.definition.now in
    let found = items_by g.L.StorageT.Numbered.number g.L.LexemeT.Lexeme.seen c.into_items-lexemes.result.items in
    let run : IsRun d s.text.now found s.lexed.boundaries =
    subst (λ xs. IsRun d s.text.now (items_by g.L.StorageT.Numbered.number g.L.LexemeT.Lexeme.seen xs) s.lexed.boundaries) (sym c.into_items-lexemes.ensures) (known_run d s.text.now _ s.lexed.boundaries c.self.invariant.1) in
    subst (λ (v : Run _ _). IsRun (definition_of g.L.StorageT.Numbered.number v.definition) c.in_ok-input.input.text.now found v.boundaries) c.self.view_is
    (subst (λ text. IsRun d text found s.lexed.boundaries) (sym c.in_ok-input.ensures.text) run)

pub returns-clause-fit : goal.returns-clause-fit
returns-clause-fit g c =
    let s = c.self.inside in
    let d = definition_of g.L.StorageT.Numbered.number s.definition.now in
    let found = items_by g.L.StorageT.Numbered.number g.L.LexemeT.Lexeme.seen c.into_items-lexemes.result.items in
    let run : IsRun d s.text.now found s.lexed.boundaries =
    subst (λ xs. IsRun d s.text.now (items_by g.L.StorageT.Numbered.number g.L.LexemeT.Lexeme.seen xs) s.lexed.boundaries) (sym c.into_items-lexemes.ensures) (known_run d s.text.now _ s.lexed.boundaries c.self.invariant.1) in
    subst (λ text. All (FitsText text) found) (sym c.in_ok-input.ensures.text)
    (fit_the_text d s.text.now found s.lexed.boundaries c.new.ensures.utf8 run)

pub returns-clause-laws : goal.returns-clause-laws
returns-clause-laws g c =
    let s = c.self.inside in
    let d = definition_of g.L.StorageT.Numbered.number s.definition.now in
    let found = items_by g.L.StorageT.Numbered.number g.L.LexemeT.Lexeme.seen c.into_items-lexemes.result.items in
    let run : IsRun d s.text.now found s.lexed.boundaries =
    subst (λ xs. IsRun d s.text.now (items_by g.L.StorageT.Numbered.number g.L.LexemeT.Lexeme.seen xs) s.lexed.boundaries) (sym c.into_items-lexemes.ensures) (known_run d s.text.now _ s.lexed.boundaries c.self.invariant.1) in
    subst (λ (v : Run _ _). AreItemsOf (definition_of g.L.StorageT.Numbered.number v.definition) c.in_ok-input.input.text.now found) c.self.view_is
    (subst (λ text. AreItemsOf d text found) (sym c.in_ok-input.ensures.text) (are_items d s.text.now found s.lexed.boundaries run))
