use Rattle.std.proofs.Common.{◌≡◌, ◌∙◌, ℕ, Bool, true, false, List, [], ap, refl}
use Rattle.std.specs.Prelude.{◌||◌, not}
use Rattle.lrlex_parser.specs.Text.{is_empty}
use Rattle.lrlex_report.proofs.warnings.states.has_no_rules.Goals as goal

empty_where : (b : Bool) (xs ys : List ℕ) → (b ≡ true → xs ≡ ys) → (b ≡ false → xs ≡ []) → is_empty xs ≡ (not b || is_empty ys)
empty_where true xs ys h k = ap is_empty (h refl)
empty_where false xs ys h k = ap is_empty (k refl)

pub returns : goal.returns
returns g c = c.is_empty.ensures ∙ empty_where _ c.active_rules.result.now _ c.active_rules.ensures.places c.active_rules.ensures.none
