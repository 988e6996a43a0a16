use Rattle.std.proofs.Common.{◌≡◌, take, ◌∙◌, ap, ap₂}
use Rattle.std.specs.List.{after_last}
use Rattle.lrlex_base.specs.Places.{is_newline}
use Rattle.lrlex_positions.specs.Columns.{width}
use Rattle.lrlex_positions.specs.Lines.{with_newlines}
use Rattle.lrlex_positions.specs.Positions.{position_of}
use Rattle.lrlex_positions.proofs.PositionLemmas.{front_of, own_place, same_place}
use Rattle.lrlex_positions.proofs.positions.position_at.Goals as goal

pub range-requires-clause-start_boundary : goal.range-requires-clause-start_boundary
range-requires-clause-start_boundary c some =
    (front_of c.args.text.now c.nearest_place-at.result c.line_at-line.result.0 c.line_at-line.result.1 c.utf8.text c.nearest_place-at.ensures.place.0.0 c.line_at-line.ensures).fits

pub returns-clause-nearest : goal.returns-clause-nearest
returns-clause-nearest c at near =
    let text = c.args.text.now in
    let found = c.nearest_place-at.result in
    let line = front_of text found c.line_at-line.result.0 c.line_at-line.result.1 c.utf8.text c.nearest_place-at.ensures.place.0.0 c.line_at-line.ensures in
    let front : c.range.result.now ≡ after_last is_newline (take found (with_newlines text)) = c.range.ensures.value ∙ line.same in
    ap₂ (λ l w. (l, w)) c.line_at-line.ensures.counted (c.width.ensures ∙ ap (width c.args.encoding) front)
    ∙ ap (position_of c.args.encoding text) (same_place text c.args.byte found at c.nearest_place-at.ensures near)

pub returns-clause-fits : goal.returns-clause-fits
returns-clause-fits c has = returns-clause-nearest c c.args.byte (own_place c.args.text.now c.args.byte has)
