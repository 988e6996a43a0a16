use Rattle.std.proofs.Common.{◌≡◌, ◌≤◌, ◌∙◌, ap, sym, subst, length, drop, take, arith, IsCharBoundary}
use Rattle.lrlex_base.specs.Spans.{Span}
use Rattle.lrlex_report.proofs.PlaceLemmas.{nearest_is}
use Rattle.lrlex_report.proofs.RangeLemmas.{front_of_front, front_end}
use Rattle.lrlex_report.proofs.ranges.fault_range.Goals as goal

pub returns-clause-fits : goal.returns-clause-fits
returns-clause-fits c =
    let rules = c.args.rules.now in
    let at = c.nearest-at.result in
    let part = c.or_first_char-part.result.now in
    let line = c.first_line-line.result.now in
    let text = c.range_from.result.now in
    let front : part ≡ take (length part) text = front_of_front text line part c.first_line-line.ensures.front c.or_first_char-part.ensures.front c.or_first_char-part.ensures.bound in
    let rest : text ≡ drop at rules = c.range_from.ensures.value in
    let bound : length part ≤ length text = omega (arith, c.or_first_char-part.ensures.bound, c.first_line-line.ensures.bound) in
    let end = front_end rules at part c.utf8.rules c.or_first_char-part.utf8 c.nearest-at.ensures.boundary
    (subst (λ t. part ≡ take (length part) t) rest front) (subst (λ t. length part ≤ length t) rest bound) in
    (subst (IsCharBoundary rules) (sym c.new.ensures.start) c.nearest-at.ensures.boundary, subst (IsCharBoundary rules) (sym c.new.ensures.end) end)

pub returns-clause-place : goal.returns-clause-place
returns-clause-place c there =
    let rules = c.args.rules.now in
    let told = ap (λ (s : Span). s.start) c.told_span-place.ensures in
    let here : IsCharBoundary rules c.start.result = subst (IsCharBoundary rules) (sym (c.start.ensures ∙ told)) there in
    c.new.ensures.start ∙ c.nearest-at.ensures.value ∙ sym (nearest_is rules c.start.result c.start.result (omega arith) here (λ i p q. absurd (omega (arith, p, q)))) ∙ c.start.ensures ∙ told
