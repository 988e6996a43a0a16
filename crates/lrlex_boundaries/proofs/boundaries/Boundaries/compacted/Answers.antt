use Rattle.std.proofs.Common.{◌≡◌, ◌+◌, ◌<◌, ◌≢◌, length, get_or, refl, [], ◌∷◌, ◌++◌, sym, ap, ap₂, subst, ◌∙◌, arith}
use Rattle.std.proofs.lemmas.List.{get_or_default, take_more}
use Rattle.lrlex_boundaries.specs.Boundaries.{no_boundary, boundary_at, last_entries}
use Rattle.lrlex_boundaries.specs.Ranges.{AreBefore, entries_of}
use Rattle.lrlex_boundaries.specs.Entries.{Stay}
use Rattle.lrlex_boundaries.specs.declared.stretch.Stretch.{Stretch}
use Rattle.lrlex_boundaries.proofs.StretchLemmas.{stretch_at-begun, before_more, before_same, begun_from_before}
use Rattle.lrlex_boundaries.proofs.ArenaLemmas.{range_is, entered_is, front_range, last_entries-push}
use Rattle.lrlex_boundaries.proofs.boundaries.Boundaries.compacted.Goals.{then-entered-len+then-index-next+in_ok-push, else-entered-len+in_ok-repeat, else-entered-len-via-then-entered-len+else-index-next, else-entered-len-via-else-entered-len}
use Rattle.lrlex_boundaries.proofs.boundaries.Boundaries.compacted.Goals as goal

pub shared-requires-clause-before : goal.shared-requires-clause-before
shared-requires-clause-before c = (front_range c.all.entered c.self.invariant c.last_of-before.ensures c.deref.ensures.value).range.ordered

pub push-requires : goal.push-requires
push-requires c =
    let entries = c.self.inside.entries.items in
    let here = c.index-here.result.now in
    let before = front_range c.all.entered c.self.invariant c.last_of-before.ensures c.deref.ensures.value in
    let more = before_more c.index.result.now c.self.invariant.rising c.all.invariant.before (omega arith) (ap (λ (s : Stretch). s.from) (sym c.index.ensures) ∙ c.if-index-next.true) in
    let after = entered_is c.all.next c.self.invariant c.self.view_is (omega arith) (begun_from_before more) (omega arith) c.index-here.ensures in
    subst (λ rs. Stay c.shared.result rs c.range_of.result.now) (before.is ∙ sym c.all.invariant.last)
    (subst (Stay c.shared.result (entries_of entries c.last_of-before.result)) (sym (c.range_of.ensures ∙ ap (λ rs. entries_of rs here) c.deref-then-index-next.ensures.value)) (c.shared.ensures entries before.range after.range))

pub all-preserved : goal.all-preserved
all-preserved c =
    let old = c.args.self.now in
    let next = c.all.next in
    let m = boundary_at old next in
    let ss = c.self.inside.stretches.items in
    let before = c.all.invariant.before in
    let step : (c.if-entered-len.made ≡ c.all.made ++ m ∷ []) × AreBefore ss c.if-entered-len.entered (next + 1) =
    elim c.if-entered-len.branch [
      | then-entered-len+then-index-next+in_ok-push w ↦
          let more = before_more w.index.result.now c.self.invariant.rising before (omega arith) (ap (λ (s : Stretch). s.from) (sym w.index.ensures) ∙ w.if-index-next.true) in
          let after = entered_is next c.self.invariant c.self.view_is (omega arith) (begun_from_before more) (omega arith) w.index-here.ensures in (
            w.made-is ∙ w.in_ok-push.ensures
                ∙ ap₂ (λ i r. c.all.made ++ record { place = i; entries = r } ∷ []) c.place-place.ensures (w.range_of.ensures ∙ ap (λ rs. entries_of rs w.index-here.result.now) w.deref-then-index-next.ensures.value ∙ after.is),
            subst (λ n. AreBefore ss n (next + 1)) (sym w.entered-is) more,
          )
      | else-entered-len+in_ok-repeat w ↦
          let none : (d : Stretch) → c.all.entered < length ss → (get_or ss c.all.entered d).from ≢ next =
          elim w.else-entered-len.branch [
            | else-entered-len-via-then-entered-len+else-index-next w' ↦ λ d lt is.
                w'.if-index-next.false (ap (λ (s : Stretch). s.from) (w'.index.ensures ∙ get_or_default ss c.all.entered w'.index.result.now d lt) ∙ is)
            | else-entered-len-via-else-entered-len w' ↦ λ d lt. absurd (omega arith)
          ] in
          let same = before_same c.self.invariant.rising before none in (
            w.made-is ∙ w.in_ok-repeat.ensures
                ∙ ap₂ (λ i r. c.all.made ++ record { place = i; entries = r } ∷ []) c.place-place.ensures
                (c.all.invariant.last ∙ (range_is next c.self.invariant c.self.view_is (omega arith) (sym (stretch_at-begun (begun_from_before same))) refl).is),
            subst (λ n. AreBefore ss n (next + 1)) (sym w.entered-is) same,
          )
    ] in
    record {
      added = step.0 ∙ ap (λ xs. xs ++ m ∷ []) c.all.invariant.added ∙ sym (take_more old next no_boundary (omega arith));
      last = ap last_entries step.0 ∙ last_entries-push c.all.made m
          ∙ sym (range_is next c.self.invariant c.self.view_is (omega arith) (sym (stretch_at-begun (begun_from_before step.1))) refl).is;
      before = step.1;
    }
