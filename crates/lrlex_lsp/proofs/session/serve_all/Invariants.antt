use Rattle.lrlex_lsp.specs.Framing.{WritesMessages}
use Rattle.lrlex_lsp.proofs.session.serve_all.Given as goal

abbrev pub invariant-rules : goal.invariant-rules
invariant-rules g l = WritesMessages (g.W.Write.contents l.fn.writer) (g.W.Write.contents l.writer)
