use Rattle.lrlex_lsp.proofs.WriteLemmas.{more_written}
use Rattle.lrlex_lsp.proofs.session.serve_over.Goals as goal

pub returns-in-End : goal.returns-in-End
returns-in-End g c = more_written _ _ _ c.turns.invariant c.in_ok-turn.ensures

pub returns-in-Rules : goal.returns-in-Rules
returns-in-Rules g c = more_written _ _ _ c.turns.invariant c.in_ok-turn.ensures

pub turns-preserved : goal.turns-preserved
turns-preserved g c = more_written _ _ _ c.turns.invariant c.in_ok-turn.ensures
