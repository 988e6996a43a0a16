use Rattle.lrlex_lsp.proofs.WriteLemmas.{message_written}
use Rattle.lrlex_lsp.proofs.session.write_told.Goals as goal

pub loop-body-preserved : goal.loop-body-preserved
loop-body-preserved g c = message_written _ _ _ _ c.loop-body.invariant c.in_ok-write_frame.ensures
