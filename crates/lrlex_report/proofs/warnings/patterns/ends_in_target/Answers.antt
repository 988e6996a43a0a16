use Rattle.std.proofs.Common.{◌≡◌, ◌≤◌, ℕ, false, rules, refl, arith, sym, ne_eqb}
use Rattle.std.proofs.lemmas.List.Sorted.{answers_always}
use Rattle.lrlex_report.specs.Warnings.{is_less}
use Rattle.lrlex_parser.proofs.Cuts.{rsplit_once_some, rsplit_once_none}
use Rattle.lrlex_report.proofs.warnings.patterns.ends_in_target.Goals as goal

less_ascii : (c : ℕ) → 128 ≤ c → is_less c ≡ false
less_ascii c high = ne_eqb c 60 (λ e. absurd (omega (arith, e, high)))

pub returns-then-goes_on : goal.returns-then-goes_on
returns-then-goes_on c =
    let at = rsplit_once_some is_less _ _ _ c.in-Some.ensures.cases (answers_always _ _ _ (λ f a r f' k. search rules)) less_ascii in
    rw (at.has, sym at.front_is, sym at.back_is, sym c.goes_on.ensures, c.if-goes_on.true) c.is_target.ensures

pub returns-else-goes_on : goal.returns-else-goes_on
returns-else-goes_on c =
    let at = rsplit_once_some is_less _ _ _ c.in-Some.ensures.cases (answers_always _ _ _ (λ f a r f' k. search rules)) less_ascii in
    rw (at.has, sym at.front_is, sym at.back_is, sym c.goes_on.ensures, c.if-goes_on.false) refl

pub returns-in-None : goal.returns-in-None
returns-in-None c = rw (rsplit_once_none is_less _ c.in-None.ensures.cases (answers_always _ _ _ (λ f a r f' k. search rules)) less_ascii) refl
