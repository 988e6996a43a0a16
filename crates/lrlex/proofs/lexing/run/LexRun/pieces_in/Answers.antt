use Rattle.std.proofs.Common.{IfOk, subst}
use Rattle.lrlex.specs.Pieces.{ArePiecesIn}
use Rattle.lrlex.specs.LexRun.{Run}
use Rattle.lrlex.specs.Views.{definition_of, items_by}
use Rattle.lrlex.proofs.ItemLemmas.{known_run}
use Rattle.lrlex.proofs.lexing.run.LexRun.pieces_in.Goals as goal

pub pieces_in-requires : goal.pieces_in-requires
pieces_in-requires g c =
    let s = c.self.inside in
    let found = items_by g.L.StorageT.Numbered.number g.L.LexemeT.Lexeme.seen s.lexed.items.items in
    (found, known_run (definition_of g.L.StorageT.Numbered.number s.definition.now) s.text.now found s.lexed.boundaries c.self.invariant.1)

pub returns : goal.returns
returns g c =
    subst (λ (v : Run _ _). IfOk c.pieces_in.result (λ pieces. ArePiecesIn (definition_of g.L.StorageT.Numbered.number v.definition) v.text v.boundaries c.args.from c.args.to pieces.items)) c.self.view_is c.pieces_in.ensures
