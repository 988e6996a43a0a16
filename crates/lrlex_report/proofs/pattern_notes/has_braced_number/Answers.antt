use Rattle.std.proofs.Common.{◌≡◌, ◌<◌, ◌≤◌, ◌-◌, ◌∙◌, ne_eqb, ℕ, ◌==◌, Bool, true, false, List, [], ◌∷◌, length, get_or, take, drop, arith, refl, sym, ap}
use Rattle.std.specs.Prelude.{◌||◌}
use Rattle.std.proofs.lemmas.Bool.{cond-true, cond-false}
use Rattle.std.proofs.lemmas.List.{take_all}
use Rattle.lrlex_report.specs.PatternNotes.{is_braced_number, has_braced_number}
use Rattle.lrlex_report.proofs.pattern_notes.has_braced_number.Goals as goal

-- what has no two bytes has no such number
none : (rest : List ℕ) → length rest < 2 → has_braced_number rest ≡ false
none [] short = refl
none (b ∷ []) short = refl
none (b ∷ c ∷ rest) short = absurd (omega (arith, short))

-- the first byte is no backslash
behind : (rest : List ℕ) → (get_or rest 0 0 ≡ 92 → ⊥) → has_braced_number (take (length rest - 1) (drop 1 rest)) ≡ has_braced_number rest
behind [] other = refl
behind (b ∷ []) other = refl
behind (b ∷ c ∷ rest) other =
    ap has_braced_number (take_all (length (b ∷ c ∷ rest) - 1) (c ∷ rest) (omega arith)) ∙ sym (cond-false (b == 92) (is_braced_number c rest || has_braced_number rest) (has_braced_number (c ∷ rest)) (ne_eqb b 92 other))

-- the first byte is a backslash, and what follows it begins such a number or doesn't
escaped : (rest : List ℕ) (x r : Bool) → 2 ≤ length rest → get_or rest 0 0 ≡ 92 → x ≡ is_braced_number (get_or rest 1 0) (take (length rest - 2) (drop 2 rest)) → x ≡ r
    → (r || has_braced_number (take (length rest - 2) (drop 2 rest))) ≡ has_braced_number rest
escaped [] x r long first e f = absurd (omega (arith, long))
escaped (b ∷ []) x r long first e f = absurd (omega (arith, long))
escaped (b ∷ c ∷ rest) x r long first e f =
    ap (λ y. y || has_braced_number (take (length (b ∷ c ∷ rest) - 2) rest)) (sym f ∙ e)
    ∙ ap (λ s. is_braced_number c s || has_braced_number s) (take_all (length (b ∷ c ∷ rest) - 2) rest (omega arith))
    ∙ sym (cond-true (b == 92) (is_braced_number c rest || has_braced_number rest) (has_braced_number (c ∷ rest)) (ap (λ y. y == 92) first))

pub returns : goal.returns
returns c = sym (none c.loop-rest.rest.now c.in_default.len_below) ∙ c.loop-rest.invariant

pub returns-then-is_braced_number : goal.returns-then-is_braced_number
returns-then-is_braced_number c = escaped c.loop-rest.rest.now c.is_braced_number.result true c.in-len2-up.len_at_least c.if-b-ne92.false c.is_braced_number.ensures c.if-is_braced_number.true ∙ c.loop-rest.invariant

pub loop-rest-preserved : goal.loop-rest-preserved
loop-rest-preserved c = escaped c.loop-rest.rest.now c.is_braced_number.result false c.in-len2-up.len_at_least c.if-b-ne92.false c.is_braced_number.ensures c.if-is_braced_number.false ∙ c.loop-rest.invariant

pub loop-rest-preserved-then-b-ne92 : goal.loop-rest-preserved-then-b-ne92
loop-rest-preserved-then-b-ne92 c = behind c.loop-rest.rest.now c.if-b-ne92.true ∙ c.loop-rest.invariant
