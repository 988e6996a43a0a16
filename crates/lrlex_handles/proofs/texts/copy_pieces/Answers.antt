use Rattle.std.proofs.Common.{◌<◌, length, ◌∙◌, sym, ap, set, arith}
use Rattle.lrlex.specs.declared.reading.pieces.Piece as cut
use Rattle.lrlex_handles.specs.Buffers.{piece_by}
use Rattle.lrlex_handles.specs.declared.structs.Piece.{Piece}
use Rattle.lrlex_handles.proofs.Fills.{put_next, counted, loop_end}
use Rattle.lrlex_handles.proofs.texts.copy_pieces.Goals as goal

pub loop-i-preserved : goal.loop-i-preserved
loop-i-preserved c =
    let here : c.loop-i.i < length c.args.pieces.now = omega arith in
    let room : c.loop-i.i < length c.args.out.now = omega arith in
    counted (λ (p : cut.Piece) (t : Piece). piece_by p) c.args.pieces.now c.args.out.now _ c.loop-i.i
    (ap (λ us. set us c.loop-i.i c.piece_of.result) c.loop-i.invariant
    ∙ put_next (λ (p : cut.Piece) (t : Piece). piece_by p) c.args.pieces.now c.index-pieces-i.result c.index-pieces-i.result c.args.out.now c.piece_of.result c.loop-i.i here room (sym c.index-pieces-i.is) (λ t. sym c.piece_of.ensures))

pub returns : goal.returns
returns c = loop_end (λ (p : cut.Piece) (t : Piece). piece_by p) c.args.pieces.now c.args.out.now _ c.loop-i.i _ c.min-room.ensures c.loop-i-test.false c.loop-i.invariant
