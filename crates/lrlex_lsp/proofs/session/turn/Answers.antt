use Rattle.lrlex_lsp.specs.Framing.{WritesMessages}
use Rattle.lrlex_lsp.proofs.WriteLemmas.{more_written, nothing_written, one_written}
use Rattle.lrlex_lsp.proofs.session.turn.Goals as goal
use Rattle.lrlex_lsp.proofs.session.turn.Goals.{in-Some+in_ok-write_frame, in_default}

pub returns : goal.returns
returns g c =
    let W = g.W.Write.contents in
    let answered : WritesMessages (W c.args.writer.now) (W c.match-handled.writer) =
    elim c.match-handled.branch [
      | in-Some+in_ok-write_frame w ↦ rw w.writer-is (one_written _ _ _ w.in_ok-write_frame.ensures)
      | in_default w ↦ rw w.writer-is (nothing_written _)
    ] in
    more_written _ _ _ answered c.in_ok-write_told.ensures
