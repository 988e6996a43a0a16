use Rattle.std.proofs.Common.{[], ◌∷◌, ◌++◌, None, ap, ◌∙◌}
use Rattle.lrlex_rules.specs.Tiling.{Error}
use Rattle.lrlex.specs.Views.{items_by}
use Rattle.lrlex.proofs.LookaheadLemmas.{looks_none}
use Rattle.lrlex.proofs.ReachLemmas.{stateless_of}
use Rattle.lrlex.proofs.lexing.run.stateless.Goals as goal

pub returns-clause-run : goal.returns-clause-run
returns-clause-run g c d text none =
    stateless_of d text _ _ none (c.in_ok-push_error.ensures ∙ ap (λ xs. items_by g.S.Numbered.number g.X.Lexeme.seen xs ++ Error 0 0 None ∷ []) c.new-items.ensures.items) c.new.ensures

pub returns-clause-looks : goal.returns-clause-looks
returns-clause-looks g c d text = looks_none d text _ _ c.new.ensures c.new-2.ensures.items
