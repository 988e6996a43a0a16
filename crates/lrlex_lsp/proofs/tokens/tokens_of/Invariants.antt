-- the pieces before the index are told
use Rattle.lrlex_lsp.proofs.ShownLemmas.{IsShown}
use Rattle.lrlex_lsp.proofs.tokens.tokens_of.Given as goal

abbrev pub invariant-loop-piece : goal.invariant-loop-piece
invariant-loop-piece l = IsShown l.language l.document.text l.pieces l.piece-index l.initial.row l.row
