use Rattle.lrlex_lsp.proofs.WriteLemmas.{more_written}
use Rattle.lrlex_lsp.proofs.session.serve_all.Goals as goal

pub returns-in-Done : goal.returns-in-Done
returns-in-Done g c = more_written _ _ _ c.rules.invariant c.in_ok-is_clean.ensures

pub rules-preserved : goal.rules-preserved
rules-preserved g c = more_written _ _ _ c.rules.invariant c.in_ok-is_clean.ensures
