use Rattle.std.proofs.Common.{◌+◌, sym, ap, ◌∙◌, subst}
use Rattle.lrlex_table.specs.Tables.{is_among, AreRising}
use Rattle.lrlex_table.proofs.PartLemmas.{rising_push, among_more}
use Rattle.lrlex_table.proofs.tables.Tables.none.Goals as goal

pub patterns-preserved : goal.patterns-preserved
patterns-preserved c =
    let items = c.in_ok-push.ensures.items in
    let old = c.patterns.asked.items in
    let n = c.patterns.place in (
      subst (AreRising 0 (n + 1)) (sym items) (rising_push 0 n old c.patterns.invariant.0),
      λ k lt. ap (λ xs. is_among xs k) items ∙ among_more old n c.patterns.invariant.1 k lt,
    )
