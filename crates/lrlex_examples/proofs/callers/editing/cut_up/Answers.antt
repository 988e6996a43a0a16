use Rattle.std.proofs.Common.{map, subst}
use Rattle.std.proofs.lemmas.Result.{IfOk-weaker}
use Rattle.lrlex.specs.Views.{definition_of, items_by}
use Rattle.lrlex.specs.Words.{lexeme_seen}
use Rattle.lrlex_examples.specs.Lexing.{ShowPieces, shown}
use Rattle.lrlex_examples.proofs.WindowLemmas.{shows_run}
use Rattle.lrlex_examples.proofs.WordLemmas.{number}
use Rattle.lrlex_examples.proofs.callers.editing.cut_up.Goals as goal

pub returns : goal.returns
returns c =
    let d = definition_of number c.args.run.now.definition in
    let found = items_by number lexeme_seen c.args.run.now.items in
    let pieces = c.in_ok-pieces.pieces.items in
    IfOk-weaker c.parts_of.result _ _ (λ parts shows. shows_run d c.args.run.now.text found c.args.run.now.boundaries (map shown parts.items) pieces c.piece_laws.ensures.all c.laws.ensures.run
    c.in_ok-pieces.ensures (subst (λ ps. ShowPieces ps (map shown parts.items)) c.deref.ensures.value shows)) c.parts_of.ensures
