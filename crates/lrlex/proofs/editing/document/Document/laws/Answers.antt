use Rattle.std.proofs.Common.{subst}
use Rattle.lrlex.specs.Lookahead.{LooksAhead}
use Rattle.lrlex.specs.LexRun.{Run}
use Rattle.lrlex.specs.Reach.{IsRun}
use Rattle.lrlex.specs.Views.{definition_of, items_by}
use Rattle.lrlex.proofs.ItemLemmas.{have_laws, known_run}
use Rattle.lrlex.proofs.LookaheadLemmas.{looks_known}
use Rattle.lrlex.proofs.editing.document.Document.laws.Goals as goal

pub returns-clause-run : goal.returns-clause-run
returns-clause-run g c =
    subst (λ (v : Run _ _). IsRun (definition_of g.L.StorageT.Numbered.number v.definition) v.text (items_by g.L.StorageT.Numbered.number g.L.LexemeT.Lexeme.seen v.items) v.boundaries)
    c.self.view_is (known_run _ _ _ _ c.self.invariant.2)

pub returns-clause-items : goal.returns-clause-items
returns-clause-items g c = have_laws _ _ _ _ (returns-clause-run g c)

pub returns-clause-looks : goal.returns-clause-looks
returns-clause-looks g c =
    subst (λ (v : Run _ _). LooksAhead (definition_of g.L.StorageT.Numbered.number v.definition) v.text v.boundaries v.ahead)
    c.self.view_is (looks_known _ _ _ _ c.self.invariant.1)
