use Rattle.std.proofs.Common.{map, subst}
use Rattle.std.proofs.lemmas.Result.{IfOk-weaker}
use Rattle.lrlex.specs.Views.{definition_of, items_by}
use Rattle.lrlex.specs.Words.{lexeme_seen}
use Rattle.lrlex_examples.specs.Lexing.{ShowPieces, shown}
use Rattle.lrlex_examples.proofs.WindowLemmas.{shows_part}
use Rattle.lrlex_examples.proofs.WordLemmas.{number}
use Rattle.lrlex_examples.proofs.callers.editing.visible.Goals as goal

pub returns : goal.returns
returns c =
    let d = definition_of number c.args.document.now.definition in
    let text = c.args.document.now.text in
    let bounds = c.args.document.now.boundaries in
    let are = c.in_ok-pieces.ensures in
    let pieces = c.in_ok-pieces.pieces.items in
    let part = c.piece_laws.ensures.part d text (items_by number lexeme_seen c.args.document.now.items) bounds are.first pieces c.laws.ensures.run are.tiles in
    IfOk-weaker c.parts_of.result _ _ (λ parts shows. shows_part d text bounds c.args.from c.args.to (map shown parts.items) pieces are part
    (subst (λ ps. ShowPieces ps (map shown parts.items)) c.deref.ensures.value shows)) c.parts_of.ensures
