use Rattle.lrlex_lsp.specs.Framing.{WritesMessages}
use Rattle.lrlex_lsp.proofs.session.write_told.Given as goal

abbrev pub invariant-loop-body : goal.invariant-loop-body
invariant-loop-body g l = WritesMessages (g.W.Write.contents l.fn.writer) (g.W.Write.contents l.writer)
