use Rattle.std.proofs.Common.{◌-◌, ◌∷◌, List, ℕ, length, take, ap, ◌∙◌}
use Rattle.lrlex_report.proofs.AlternativeLemmas.{cut_at, behind_none, behind_some}
use Rattle.lrlex_report.proofs.warnings.alternatives.first_alternative.Goals as goal

pub returns-in-empty-clause-parts : goal.returns-in-empty-clause-parts
returns-in-empty-clause-parts c =
    let xs = c.args.pattern.now in
    let left = c.from_bar-left.result.now in
    cut_at xs left c.from_bar-left.ensures.left
    ∙ ap (λ (more : List (List ℕ)). take (length xs - length left) xs ∷ more) (behind_none left c.in-empty.len_below)

pub returns-in-len1-up-clause-parts : goal.returns-in-len1-up-clause-parts
returns-in-len1-up-clause-parts c =
    let xs = c.args.pattern.now in
    let left = c.from_bar-left.result.now in
    cut_at xs left c.from_bar-left.ensures.left
    ∙ ap (λ (more : List (List ℕ)). take (length xs - length left) xs ∷ more) (behind_some left c.in-len1-up.len_at_least)
