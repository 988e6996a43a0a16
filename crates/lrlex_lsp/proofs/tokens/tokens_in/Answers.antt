use Rattle.std.proofs.Common.{ℕ, List, Result, Ok, Err, IfOk, subst}
use Rattle.lrlex.specs.Pieces.{ArePiecesIn}
use Rattle.lrlex.specs.Views.{definition_of}
use Rattle.lrlex.specs.declared.reading.pieces.Piece.{Piece}
use Rattle.lrlex_lsp.specs.Shown.{TellPieces}
use Rattle.lrlex_lsp.specs.declared.tokens.Tokens.{Tokens}
use Rattle.lrlex_lsp.proofs.tokens.tokens_in.Goals as goal

-- what holds of a value
of_value : {A E : Type 0} (P Q : A → Type 0) (r : Result A E) → ((v : A) → P v → Q v) → IfOk r P → IfOk r Q
of_value P Q (Ok v) f h = f v h
of_value P Q (Err e) f h = h

pub returns : goal.returns
returns c =
    let document = c.args.document.now in
    let d = definition_of (λ (n : ℕ). n) document.definition in
    let tells = λ (pieces : List Piece) (told : Tokens). TellPieces c.args.language.now c.args.encoding document.text pieces c.args.last told.numbers.items in
    of_value (tells c.as_slice.result.now) (λ told. (pieces : List Piece) × ArePiecesIn d document.text document.boundaries c.args.bytes.0 c.args.bytes.1 pieces × tells pieces told) c.tokens_of.result
    (λ told h. (c.in_ok-pieces.pieces.items, c.in_ok-pieces.ensures, subst (λ pieces. tells pieces told) c.as_slice.ensures.value h)) c.tokens_of.ensures
