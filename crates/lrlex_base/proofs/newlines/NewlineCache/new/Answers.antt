use Rattle.std.proofs.Common.{◌≡◌, [], length, refl, ap, arith}
use Rattle.lrlex_base.proofs.newlines.NewlineCache.new.Goals as goal

pub invariant_of-result : goal.invariant_of-result
invariant_of-result g c =
    let none : c.new.result.items ≡ [] = c.new.ensures.items in
    (λ k d l. absurd (omega (arith, ap length none)), ∣ ([], refl, none) ∣₁)
