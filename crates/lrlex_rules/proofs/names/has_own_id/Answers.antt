use Rattle.std.proofs.Common.{refl, sym, ◌∙◌, true≢false, arith}
use Rattle.lrlex_rules.proofs.names.has_own_id.Goals as goal

pub returns-in-None-of_count : goal.returns-in-None-of_count
returns-in-None-of_count g c = (
  λ is. absurd (true≢false (sym is)),
  λ own.
      let past = c.in-None-of_count.ensures.none.0 refl in
      absurd (omega (arith, past, (own c.in-Some.id (sym c.tok_id.ensures ∙ c.in-Some.is)).1)),
)
