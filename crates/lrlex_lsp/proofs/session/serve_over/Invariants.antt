use Rattle.lrlex_lsp.specs.Framing.{WritesMessages}
use Rattle.lrlex_lsp.proofs.session.serve_over.Given as goal

abbrev pub invariant-turns : goal.invariant-turns
invariant-turns g l = WritesMessages (g.W.Write.contents l.fn.writer) (g.W.Write.contents l.writer)
