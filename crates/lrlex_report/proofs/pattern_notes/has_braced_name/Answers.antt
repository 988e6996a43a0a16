use Rattle.std.proofs.Common.{◌≡◌, ◌<◌, ◌∙◌, ℕ, false, List, [], ◌∷◌, length, arith, refl, sym}
use Rattle.lrlex_report.specs.PatternNotes.{has_braced_name}
use Rattle.lrlex_report.proofs.pattern_notes.has_braced_name.Goals as goal

-- what has no two bytes has no such name
none : (before : ℕ) (rest : List ℕ) → length rest < 2 → has_braced_name before rest ≡ false
none before [] short = refl
none before (b ∷ []) short = refl
none before (b ∷ c ∷ rest) short = absurd (omega (arith, short))

pub returns : goal.returns
returns c = sym (none c.loop-rest.before c.loop-rest.rest.now c.in_default.len_below) ∙ c.loop-rest.invariant
