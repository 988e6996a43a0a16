-- Pairs of numbers that are the same.
use Rattle.std.proofs.Common.{◌≡◌, ℕ, Bool, true, false, true≢false, ◌&&◌, ◌==◌, refl, sym, ap, ap₂, eq-eqb}
use Rattle.std.specs.Bool.{Decides}
use Rattle.std.proofs.lemmas.Bool.{eqb-true}

both : (a b : Bool) → (a && b) ≡ true → (a ≡ true) × (b ≡ true)
both true true e = (refl, refl)
both true false e = absurd (true≢false (sym e))
both false b e = absurd (true≢false (sym e))

pub pair_decides : (a b : ℕ × ℕ) → Decides (a.0 == b.0 && a.1 == b.1) (a ≡ b)
pair_decides a b = (
  λ e. let h = both _ _ e in ap₂ (λ (x y : ℕ). (x, y)) (eqb-true a.0 b.0 h.0) (eqb-true a.1 b.1 h.1),
  λ e. ap₂ ◌&&◌ (eq-eqb a.0 b.0 (ap (λ x. x.0) e)) (eq-eqb a.1 b.1 (ap (λ x. x.1) e)),
)
