use Rattle.std.proofs.Common.{map, take}
use Rattle.lrlex_examples.specs.Lexing.{ShowPieces, shown}
use Rattle.lrlex_examples.proofs.callers.editing.parts_of.Given as goal

abbrev pub invariant-loop-piece : goal.invariant-loop-piece
invariant-loop-piece l = ShowPieces (take l.piece-index l.pieces) (map shown l.parts.items)
