use Rattle.std.proofs.Common.{IfOk, sym, subst}
use Rattle.lrlex.specs.Pieces.{ArePiecesIn}
use Rattle.lrlex.specs.LexRun.{Run}
use Rattle.lrlex.specs.Reach.{IsRun}
use Rattle.lrlex.specs.Views.{definition_of, items_by}
use Rattle.lrlex.proofs.ItemLemmas.{known_run}
use Rattle.lrlex.proofs.editing.document.Document.pieces_in.Goals as goal

pub pieces_in-requires : goal.pieces_in-requires
pieces_in-requires g c =
    let s = c.self.inside in
    let d = definition_of g.L.StorageT.Numbered.number s.definition.now in
    let found = items_by g.L.StorageT.Numbered.number g.L.LexemeT.Lexeme.seen s.held.lexed.items.items in
    (found, subst (λ text. IsRun d text found s.held.lexed.boundaries) (sym c.deref.ensures) (known_run d _ found s.held.lexed.boundaries c.self.invariant.2))

pub returns : goal.returns
returns g c =
    let s = c.self.inside in
    let d = definition_of g.L.StorageT.Numbered.number s.definition.now in
    subst (λ (v : Run _ _). IfOk c.pieces_in.result (λ pieces. ArePiecesIn (definition_of g.L.StorageT.Numbered.number v.definition) v.text v.boundaries c.args.from c.args.to pieces.items)) c.self.view_is
    (subst (λ text. IfOk c.pieces_in.result (λ pieces. ArePiecesIn d text s.held.lexed.boundaries c.args.from c.args.to pieces.items)) c.deref.ensures c.pieces_in.ensures)
