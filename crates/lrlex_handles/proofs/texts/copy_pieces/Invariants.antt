use Rattle.std.proofs.Common.{◌≡◌, take}
use Rattle.lrlex_handles.specs.Buffers.{filled, piece_by}
use Rattle.lrlex_handles.proofs.texts.copy_pieces.Given as goal

-- the pieces so far are written
abbrev pub invariant-loop-i : goal.invariant-loop-i
invariant-loop-i l = l.out ≡ filled (λ p _. piece_by p) (take l.i l.pieces) l.fn.out
