use Rattle.std.proofs.Common.{◌≡◌, ◌||◌, ◌<◌, ℕ, List, Bool, false, get_or, length, sym, ap, ◌∙◌}
use Rattle.std.proofs.Math.Bool.{or-false}
use Rattle.lrlex_definition.specs.Somewhere.{stands_at}
use Rattle.lrlex_definition.proofs.MarkLemmas.{mark_more, stands_within, stands_past}
use Rattle.lrlex_definition.proofs.somewhere.mark_at.Goals as goal
use Rattle.lrlex_definition.proofs.somewhere.mark_at.Goals.{then-index-places, else-index-places}

pub indices-preserved : goal.indices-preserved
indices-preserved c =
    let places = c.args.places.now in
    let indices = c.args.indices.now in
    let old = c.indices.marks in
    let index = get_or indices c.indices.at 0 in
    let more = λ (new : List Bool) (len : length new ≡ length old) (step : (k : ℕ) → k < length old → get_or new k false ≡ (get_or old k false || stands_at places k index)).
    mark_more (stands_at places) c.args.marks.now old new indices c.indices.at c.indices-test.true c.indices.invariant len step in
    elim c.if-index-places.branch [
      | then-index-places w ↦
          more c.if-index-places.marks (ap length w.marks-is ∙ w.mark.ensures.len)
          (λ k lt. ap (λ xs. get_or xs k false) w.marks-is ∙ w.mark.ensures.marked k lt ∙ ap (λ b. get_or old k false || b) (sym (stands_within places k index w.if-index-places.true)))
      | else-index-places w ↦
          more c.if-index-places.marks (ap length w.marks-is)
          (λ k lt. ap (λ xs. get_or xs k false) w.marks-is ∙ sym (or-false (get_or old k false)) ∙ ap (λ b. get_or old k false || b) (sym (stands_past places k index w.if-index-places.false)))
    ]
