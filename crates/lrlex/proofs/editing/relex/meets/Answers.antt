use Rattle.std.proofs.Common.{◌≡◌, inl, inr, ap, ◌∙◌, arith}
use Rattle.std.proofs.lemmas.Bool.{cases_lt}
use Rattle.lrlex_boundaries.specs.Boundaries.{no_boundary, boundary_at}
use Rattle.lrlex_boundaries.specs.Entries.{plain}
use Rattle.lrlex.proofs.EntryLemmas.{same_entries}
use Rattle.lrlex.proofs.editing.relex.meets.Goals as goal

pub returns-clause-none : goal.returns-clause-none
returns-clause-none c off past j within at same =
    let old = c.args.old.now in
    let cur = c.first_from.result in
    elim (cases_lt j cur) [
      | inl before ↦ elim (cases_lt j c.args.cursor.now) [
        | inl early ↦ absurd (omega (arith, c.requires.behind j early))
        | inr late ↦ absurd (omega (arith, c.first_from.ensures.skipped j late before))
      ]
      | inr after ↦ elim (cases_lt cur j) [
        | inl past_it ↦ absurd (omega (arith, c.requires.sorted.rising cur j past_it within, c.first_from.ensures.stops (omega arith)))
        | inr there ↦
            let e : cur ≡ j = omega arith in
            let stops = c.first_from.ensures.stops (omega arith) in
            c.is_at.ensures.none off (omega arith) (omega (arith, ap (λ i. (boundary_at old i).place) e))
            (same_entries (boundary_at old cur).entries c.args.stack.now (c.requires.sorted.entries cur no_boundary (omega arith)) c.requires.stack (ap (λ i. plain (boundary_at old i).entries) e ∙ same))
      ]
    ]
