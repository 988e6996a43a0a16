use Rattle.std.proofs.Common.{true≢false, sym, ◌∙◌}
use Rattle.std.proofs.lemmas.Slice.Eq.{slice_eq-Decides}
use Rattle.lrlex_boundaries.proofs.PairLemmas.{pair_decides}
use Rattle.lrlex.proofs.editing.relex.is_at.Goals as goal

pub returns-clause-stack : goal.returns-clause-stack
returns-clause-stack c on = sym c.stack.ensures ∙ (slice_eq-Decides pair_decides c.stack.result.now c.args.stack.now c.eq.result c.eq.ensures).0 on

pub returns-clause-none : goal.returns-clause-none
returns-clause-none c off within at same =
    true≢false (sym ((slice_eq-Decides pair_decides c.stack.result.now c.args.stack.now c.eq.result c.eq.ensures).1 (c.stack.ensures ∙ same)) ∙ off)
