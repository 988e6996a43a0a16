use Rattle.std.proofs.Common.{rules, ◌≡◌, ◌+◌, ap₂, string_bytes, arith}
use Rattle.std.proofs.lemmas.Result.{on_ok_weaker}
use Rattle.lrlex_base.specs.Places.{line_of, place_of}
use Rattle.lrlex_base.specs.Spans.{as_span}
use Rattle.lrlex_report.proofs.PlaceLemmas.{placed}
use Rattle.lrlex_report.proofs.places.Source.push_place.Goals as goal

pub returns : goal.returns
returns c =
    let source = c.args.self.now in
    let text = source.text.now in
    let at = c.nearest-at.result in
    let number : c.line_at-number.result + 1 ≡ line_of text at = omega (arith, c.line_at-number.ensures text source.of_text) in
    let place : (c.line_at-number.result + 1, c.column-column.result) ≡ place_of text at = ap₂ (λ a b. (a, b)) number c.column-column.ensures in
    on_ok_weaker c.push_excerpt.result (
    placed source.file.now text c.args.message.now (string_bytes c.args.out.now) (string_bytes c.push_heading.new.out) (string_bytes c.push_excerpt.new.out)
    (as_span c.args.span) at c.nearest-to.result (c.line_at-number.result + 1, c.column-column.result) (search rules) (search rules) place c.in_ok-push_heading.ensures
    ) c.push_excerpt.ensures
