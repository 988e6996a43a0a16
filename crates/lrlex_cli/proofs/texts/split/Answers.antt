-- Each way out of `split` is one of the cases of the lemmas; the arms on `strip_suffix` also say whether its front is whole lines.
use Rattle.std.proofs.Common.{rules, ◌≡◌, ℕ, length, List, ◌++◌, arith, inl, inr, sym, ◌∙◌, ◌≢◌, subst, ap}
use Rattle.std.specs.Prelude.{codes}
use Rattle.std.proofs.lemmas.List.{append_cancel_right}
use Rattle.std.proofs.lemmas.Str.Pattern.{ends_char}
use Rattle.lrlex_cli.specs.Texts.{IsWholeLines}
use Rattle.lrlex_cli.proofs.SplitLemmas.{split_found_at, split_end, split_none, whole_lines, broken_line}
use Rattle.lrlex_cli.proofs.texts.split.Goals as goal
use Rattle.lrlex_cli.proofs.texts.split.Goals.{in_default-strip_suffix-via-in-Some-strip_suffix+else-ends_with, then-is_empty, else-is_empty, in_default-strip_suffix-via-in_default-strip_suffix}

pub returns-in-Some-find : goal.returns-in-Some-find
returns-in-Some-find c =
    let found = c.in-Some-find.ensures.cases in
    split_found_at _ _ _ _ _ c.in_default.ensures.cases found.1.0 found.1.1 (omega arith) c.range.ensures.value c.range_from.ensures.value

pub returns-in-Some-strip_suffix : goal.returns-in-Some-strip_suffix
returns-in-Some-strip_suffix c =
    let found = c.in-Some-strip_suffix.ensures.cases in
    let before : List ℕ = c.in-Some-strip_suffix.before.now in
    let lines : IsWholeLines before = elim c.if-is_empty.branch [
      | then-is_empty w ↦ let none : length before ≡ 0 = search (rules, w.if-is_empty.true, c.is_empty.ensures) in whole_lines before (inl none)
      | else-is_empty w ↦ whole_lines before (inr (_, (ends_char 10 before w.ends_with.result w.ends_with.ensures.cases (omega arith)).0 (sym w.value-is ∙ c.if-ends_with.true)))
    ] in
    split_end _ _ c.in_default.ensures.cases (λ i h. c.in_default-find.ensures.cases i (omega arith)) lines (found.1.1 ∙ ap (λ (l : List ℕ). l ++ codes "----") (sym found.2))

pub returns-in_default-strip_suffix : goal.returns-in_default-strip_suffix
returns-in_default-strip_suffix c =
    split_none _ c.in_default.ensures.cases (λ i h. c.in_default-find.ensures.cases i (omega arith)) (λ front lines e. elim c.in_default-strip_suffix.branch [
      | in_default-strip_suffix-via-in-Some-strip_suffix+else-ends_with w ↦
          let found = w.in-Some-strip_suffix.ensures.cases in
          let before : List ℕ = w.in-Some-strip_suffix.before.now in
          let same : front ≡ before = append_cancel_right _ _ _ (sym e ∙ found.1.1 ∙ ap (λ (l : List ℕ). l ++ codes "----") (sym found.2)) in
          elim w.if-is_empty.branch [
            | then-is_empty w' ↦ absurd cc
            | else-is_empty w' ↦
                let some : length before ≢ 0 = search (rules, w'.if-is_empty.false, w.is_empty.ensures) in
                broken_line before w'.ends_with.result some (ends_char 10 before w'.ends_with.result w'.ends_with.ensures.cases (omega arith)).1 (sym w'.value-is ∙ w.if-ends_with.false) (subst IsWholeLines same lines)
          ]
      | in_default-strip_suffix-via-in_default-strip_suffix w ↦ w.in_default-strip_suffix.ensures.cases front e
    ])
