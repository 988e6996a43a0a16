use Rattle.std.proofs.Common.{◌∙◌, arith}
use Rattle.lrlex_matching.proofs.ForCallers.{length_alike}
use Rattle.lrlex_rules.proofs.matchers.match_with.Goals as goal

pub returns-clause-length : goal.returns-clause-length
returns-clause-length g c = c.match_len.ensures.length ∙ length_alike _ _ c.requires.rule c.args.text.now (λ k. omega (arith, c.type_inv.text k))
