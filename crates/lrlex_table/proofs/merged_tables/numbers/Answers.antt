use Rattle.std.proofs.Common.{◌+◌, ◌-◌, ◌∷◌, [], get_or, inl, inr, sym, ap, ◌∙◌, subst, arith}
use Rattle.std.proofs.lemmas.Bool.{cases_lt}
use Rattle.std.proofs.lemmas.Grind.{common_steps}
use Rattle.std.proofs.lemmas.List.{get_or_append_left, get_or_at}
use Rattle.lrlex_table.specs.Tables.{AreRising}
use Rattle.lrlex_table.proofs.PartLemmas.{rising_push}
use Rattle.lrlex_table.proofs.merged_tables.numbers.Goals as goal

pub numbers-preserved : goal.numbers-preserved
numbers-preserved c =
    let at = c.numbers in
    let from = c.args.from in
    let old = at.numbers.items in
    let is = c.in_ok-push.ensures.items in
    let inv = at.invariant in (
      omega (arith, inv.0),
      subst (AreRising from (at.number + 1)) (sym is) (rising_push from at.number old inv.1),
      grind (arith, common_steps),
      λ i lt. ap (λ l. get_or l i 0) is ∙ elim (cases_lt i (at.number - from)) [
        | inl low ↦ get_or_append_left old (at.number ∷ []) 0 i (omega (arith, inv.2)) ∙ inv.3 i low
        | inr high ↦ get_or_at old at.number [] 0 i (omega (arith, inv.2)) ∙ omega (arith, inv.0)
      ],
    )
