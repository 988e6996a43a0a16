use Rattle.std.proofs.Common.{◌≡◌, ◌+◌, ◌<◌, ◌++◌, ℕ, false, drop, length, take, subst}
use Rattle.lrlex.specs.Pieces.{joined}
use Rattle.lrlex.specs.Words.{HasPosition, IsNearestPlace, position_of}
use Rattle.lrlex_lsp.specs.Shown.{begin_of}
use Rattle.lrlex_lsp.specs.declared.tokens.Row.{Row}
use Rattle.lrlex_lsp.proofs.ShownLemmas.{piece_there, shown_more, shown_starts, tells}
use Rattle.lrlex_lsp.proofs.TokenLemmas.{starts_at}
use Rattle.lrlex_lsp.proofs.tokens.tokens_of.Goals as goal

pub loop-piece-init : goal.loop-piece-init
loop-piece-init c =
    let text = c.args.document.now.text in
    let row : Row = record { encoding = c.args.encoding; tokens = c.none.result; place = c.position_in.result; returned = false; last = c.args.last } in
    let fits = subst (λ b. HasPosition text b → c.position_in.result ≡ position_of c.args.encoding text b) c.begin_of.ensures c.position_in.ensures.fits in
    let nearest = subst (λ b. (n : ℕ) → IsNearestPlace text b n → c.position_in.result ≡ position_of c.args.encoding text n) c.begin_of.ensures c.position_in.ensures.nearest in
    shown_starts c.args.language.now text c.args.pieces.now row (starts_at c.args.encoding text (begin_of c.args.pieces.now) c.position_in.result c.requires.utf8 c.requires.begins fits nearest)

pub loop-piece-preserved : goal.loop-piece-preserved
loop-piece-preserved c =
    let text = c.args.document.now.text in
    let pieces = c.args.pieces.now in
    let n = c.loop-piece.piece-index in
    let p = c.piece-item.result in
    let known = c.loop-piece.invariant in
    let row : Row = record { encoding = c.args.encoding; tokens = c.none.result; place = c.position_in.result; returned = false; last = c.args.last } in
    let h : n < length pieces = c.loop-piece-test.true in
    let one = c.in_ok-push_piece.ensures text (joined (drop (n + 1) pieces) ++ c.requires.rest) (begin_of pieces + length (joined (take n pieces))) c.requires.small known.goes.place
    (piece_there text pieces n p c.requires h c.piece-item.is) in
    shown_more c.args.language.now text pieces n p c.kind_of.result row c.loop-piece.row c.push_piece.new.self known h c.piece-item.is c.kind_of.ensures one

pub returns : goal.returns
returns c =
    let row : Row = record { encoding = c.args.encoding; tokens = c.none.result; place = c.position_in.result; returned = false; last = c.args.last } in
    tells c.args.language.now c.args.document.now.text c.args.pieces.now c.loop-piece.piece-index row c.loop-piece.row c.loop-piece.invariant c.loop-piece-test.false c.none.ensures
