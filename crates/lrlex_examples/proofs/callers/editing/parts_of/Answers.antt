use Rattle.std.proofs.Common.{ℕ, List, map, ap, subst, arith, take_all}
use Rattle.lrlex_examples.specs.Lexing.{ShowPieces, shown}
use Rattle.lrlex_examples.proofs.WindowLemmas.{shows_more}
use Rattle.lrlex_examples.proofs.callers.editing.parts_of.Goals as goal

pub loop-piece-init : goal.loop-piece-init
loop-piece-init c = ap (λ ws. map (λ (w : List ℕ × List ℕ). w.1) (map shown ws)) c.new-parts.ensures.items

pub loop-piece-preserved : goal.loop-piece-preserved
loop-piece-preserved c =
    shows_more c.loop-piece.parts.items c.push.new.self.items c.unwrap_or.result c.args.pieces.now c.loop-piece.piece-index c.piece-item.result
    c.loop-piece-test.true c.piece-item.is c.loop-piece.invariant c.in_ok-push.ensures.items

pub returns : goal.returns
returns c =
    subst (λ ps. ShowPieces ps (map shown c.loop-piece.parts.items)) (take_all c.loop-piece.piece-index c.args.pieces.now (omega (arith, c.loop-piece-test.false)))
    c.loop-piece.invariant
