use Rattle.std.proofs.Common.{◌≡◌, ◌++◌, ◌+◌, ◌∙◌, ℕ, List, length, sym, ap, arith, append_assoc, add-one}
use Rattle.lrlex_base.specs.Spans.{Span}
use Rattle.lrlex_report.specs.Warnings.{up_to}
use Rattle.lrlex_report.specs.declared.warnings.kinds.WarningKind.{WarningKind}
use Rattle.lrlex_report.proofs.warnings.push_rules.Goals as goal

-- one place more
one_more : (f : ℕ → List (WarningKind × Span)) (old t new : List (WarningKind × Span)) (n : ℕ) → t ≡ old ++ up_to f n → new ≡ t ++ f n → new ≡ old ++ up_to f (n + 1)
one_more f old t new n e h = h ∙ ap (λ (s : List (WarningKind × Span)). s ++ f n) e ∙ append_assoc old (up_to f n) (f n) ∙ ap (λ (k : ℕ). old ++ up_to f k) (sym (add-one n))

-- all places
all_places : (f : ℕ → List (WarningKind × Span)) (old t : List (WarningKind × Span)) (n m : ℕ) → t ≡ old ++ up_to f n → n ≡ m → t ≡ old ++ up_to f m
all_places f old t n m e h = e ∙ ap (λ (k : ℕ). old ++ up_to f k) h

pub rules-preserved : goal.rules-preserved
rules-preserved g c = record {
  told = one_more _ _ _ _ c.rules.place c.rules.invariant.told c.in_ok-push_place.ensures.told;
  fit = λ h. c.in_ok-push_place.ensures.fit (c.rules.invariant.fit h);
}

pub returns-clause-told : goal.returns-clause-told
returns-clause-told g c =
    let rules = c.args.table.now.rules in
    let same : c.rules.place ≡ length rules.items = omega (arith, c.rules-test.false, c.rules.auto.place-end, c.len-count.ensures, rules.ok.0) in
    all_places _ _ _ c.rules.place _ c.rules.invariant.told same
