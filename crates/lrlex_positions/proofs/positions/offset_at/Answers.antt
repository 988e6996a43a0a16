use Rattle.std.proofs.Common.{◌≡◌, ◌-◌, ◌+◌, ◌∙◌, refl, length, take, drop, sym, ap, subst, arith}
use Rattle.std.specs.Str.{IsCharBoundary}
use Rattle.lrlex_positions.specs.Columns.{IsLastColumn}
use Rattle.lrlex_positions.specs.Lines.{IsLineEnd}
use Rattle.lrlex_positions.specs.Positions.{IsLastUpTo}
use Rattle.lrlex_positions.proofs.PositionLemmas.{inverse, past_lines, ends, start_fits, cut_fits, cut_order, last_on_line}
use Rattle.lrlex_positions.proofs.positions.offset_at.Goals as goal

pub returns-in-None-clause-last : goal.returns-in-None-clause-last
returns-in-None-clause-last c = past_lines c.args.encoding c.args.text.now c.args.position (c.in-None.ensures.none refl)

pub returns-in-None-clause-inverse : goal.returns-in-None-clause-inverse
returns-in-None-clause-inverse c at has e = inverse c.args.encoding c.args.text.now c.args.position (length c.args.text.now) at c.utf8.text (returns-in-None-clause-last c) has e

pub before_return-end-requires : goal.before_return-end-requires
before_return-end-requires c =
    omega (arith, c.end.ensures, ends c.args.text.now c.args.position.0 c.in-Some.span.start c.in-Some.span.end c.utf8.text c.in-Some.ensures.some)

pub range-requires-clause-start_le_end : goal.range-requires-clause-start_le_end
range-requires-clause-start_le_end c =
    let text = c.args.text.now in
    let s = c.in-Some.span in
    let cut : IsLineEnd text s.start s.end c.before_return-end.result = subst (λ i. IsLineEnd text i s.end c.before_return-end.result) c.start-begin.ensures (subst (λ e. IsLineEnd text c.start-begin.result e c.before_return-end.result) c.end.ensures c.before_return-end.ensures) in
    omega (arith, (cut_order text c.args.position.0 s.start s.end c.utf8.text c.in-Some.ensures.some c.before_return-end.result cut).0, c.start-begin.ensures)

pub range-requires-clause-start_boundary : goal.range-requires-clause-start_boundary
range-requires-clause-start_boundary c _ =
    let s = c.in-Some.span in
    subst (IsCharBoundary c.args.text.now) (sym c.start-begin.ensures) (start_fits c.args.text.now c.args.position.0 s.start s.end c.utf8.text c.in-Some.ensures.some)

pub range-requires-clause-end_boundary : goal.range-requires-clause-end_boundary
range-requires-clause-end_boundary c =
    let text = c.args.text.now in
    let s = c.in-Some.span in
    let cut : IsLineEnd text s.start s.end c.before_return-end.result = subst (λ i. IsLineEnd text i s.end c.before_return-end.result) c.start-begin.ensures (subst (λ e. IsLineEnd text c.start-begin.result e c.before_return-end.result) c.end.ensures c.before_return-end.ensures) in
    cut_fits text c.args.position.0 s.start s.end c.utf8.text c.in-Some.ensures.some c.before_return-end.result cut

pub returns-in-Some-clause-last : goal.returns-in-Some-clause-last
returns-in-Some-clause-last c =
    let text = c.args.text.now in
    let s = c.in-Some.span in
    let b = s.start in
    let f = c.before_return-end.result in
    let cut : IsLineEnd text s.start s.end f = subst (λ i. IsLineEnd text i s.end c.before_return-end.result) c.start-begin.ensures (subst (λ e. IsLineEnd text c.start-begin.result e c.before_return-end.result) c.end.ensures c.before_return-end.ensures) in
    let part : c.range.result.now ≡ take (f - b) (drop b text) = c.range.ensures.value ∙ ap (λ i. take (f - i) (drop i text)) c.start-begin.ensures in
    let is : IsLastColumn c.args.encoding (take (f - b) (drop b text)) c.args.position.1 c.place_of_column.result =
    subst (λ t. IsLastColumn c.args.encoding t c.args.position.1 c.place_of_column.result) part c.place_of_column.ensures in
    let at : b + c.place_of_column.result ≡ c.start-begin.result + c.place_of_column.result = omega (arith, c.start-begin.ensures) in
    subst (IsLastUpTo c.args.encoding text c.args.position) at (last_on_line text c.args.position.0 s.start s.end c.utf8.text c.in-Some.ensures.some f cut c.args.encoding c.args.position.1 c.place_of_column.result is)

pub returns-in-Some-clause-inverse : goal.returns-in-Some-clause-inverse
returns-in-Some-clause-inverse c at has e =
    inverse c.args.encoding c.args.text.now c.args.position (c.start-begin.result + c.place_of_column.result) at c.utf8.text (returns-in-Some-clause-last c) has e
