use Rattle.std.proofs.Common.{◌≡◌, ◌+◌, ◌-◌, ◌≤◌, length, take, drop, get_or, sym, ◌∙◌, ap, subst, arith}
use Rattle.std.specs.List.{count_by, after_last, position_or_len}
use Rattle.std.specs.Str.{IsCharBoundary}
use Rattle.std.proofs.lemmas.Grind.{get_or_default_zero}
use Rattle.lrlex_base.specs.Places.{newlines_from, starts_after, is_newline}
use Rattle.lrlex_base.proofs.NewlineLemmas.{starts_of_view, begin_is, begin_fits, line_end, line_end_fits}
use Rattle.lrlex_base.proofs.newlines.NewlineCache.span_line_bytes.Goals as goal
use Rattle.lrlex_base.proofs.newlines.NewlineCache.span_line_bytes.Goals.{then-last-len, else-last-len}

pub returns-clause-lines : goal.returns-clause-lines
returns-clause-lines g c text breaks =
    let fed : c.self.inside.bytes ≡ c.args.self.now.fed = ap (λ v. v.fed) c.self.view_is in
    let S = c.self.inside.starts.items in
    let from = c.args.span.start in
    let to = c.args.span.end in
    let long : c.args.self.now.fed ≡ length text = breaks.0 in
    let within : to ≤ length text = omega (arith, c.requires) in
    let is : S ≡ starts_after (newlines_from 0 text) = starts_of_view S c.args.self.now.newlines text c.self.invariant.0 (ap (λ v. v.newlines) c.self.view_is) breaks.1 in
    let first_at : c.start.result ≡ from = c.start.ensures in
    let last_at : c.end.result ≡ to = c.end.ensures in
    let first : c.lines_begun-first.result ≡ count_by is_newline (take from text) =
    c.lines_begun-first.ensures.count text (omega (arith, c.args.span.in_order)) (c.deref.ensures.value ∙ is) ∙ ap (λ n. count_by is_newline (take n text)) first_at in
    let last : c.lines_begun-last.result ≡ count_by is_newline (take to text) =
    c.lines_begun-last.ensures.count text (omega arith) (c.deref-2.ensures.value ∙ is) ∙ ap (λ n. count_by is_newline (take n text)) last_at in
    let begin = begin_is S c.deref-3.result.now text from c.lines_begun-first.result c.line_begin.result is c.deref-3.ensures.value (omega (arith, c.args.span.in_order)) first c.line_begin.ensures in
    let behind = line_end text to c.lines_begun-last.result within last in
    let count : length S ≡ c.len.result = sym (ap length c.deref-2.ensures.value) ∙ c.deref-2.ensures.len ∙ sym c.len.ensures in
    let all : length S ≡ length (starts_after (newlines_from 0 text)) = ap length is in
    let end : c.if-last-len.end ≡ to + position_or_len is_newline (drop to text) =
    elim c.if-last-len.branch [
      | then-last-len w ↦
          let here : w.index.result.now ≡ get_or (starts_after (newlines_from 0 text)) c.lines_begun-last.result 0 =
          w.index.ensures ∙ get_or_default_zero S c.lines_begun-last.result w.index.result.now (omega (arith, w.if-last-len.true)) ∙ ap (λ l. get_or l c.lines_begun-last.result 0) is in
          omega (arith, w.end-is, behind.0 (omega (arith, w.if-last-len.true)))
      | else-last-len w ↦ omega (arith, w.end-is, behind.1 (omega (arith, w.if-last-len.false)))
    ] in
    (omega arith, end)

pub returns-clause-fits : goal.returns-clause-fits
returns-clause-fits g c text utf8 breaks =
    let is : (c.line_begin.result ≡ c.args.span.start - length (after_last is_newline (take c.args.span.start text))) × (c.if-last-len.end ≡ c.args.span.end + position_or_len is_newline (drop c.args.span.end text)) = returns-clause-lines g c text breaks in
    let fed : c.self.inside.bytes ≡ c.args.self.now.fed = ap (λ v. v.fed) c.self.view_is in
    let long : c.args.self.now.fed ≡ length text = breaks.0 in
    let within : c.args.span.end ≤ length text = omega (arith, c.requires) in
    let S = c.self.inside.starts.items in
    let same : S ≡ starts_after (newlines_from 0 text) = starts_of_view S c.args.self.now.newlines text c.self.invariant.0 (ap (λ v. v.newlines) c.self.view_is) breaks.1 in
    let equal : c.deref.result.now ≡ c.deref-3.result.now = c.deref.ensures.value ∙ sym c.deref-3.ensures.value in
    let bound : c.lines_begun-first.result ≤ length c.deref-3.result.now = subst (λ l. c.lines_begun-first.result ≤ length l) equal c.lines_begun-first.ensures.bound in (
      omega (arith, c.args.span.in_order),
      begin_fits S c.deref-3.result.now text c.lines_begun-first.result c.line_begin.result utf8 same c.deref-3.ensures.value bound c.line_begin.ensures,
      subst (IsCharBoundary text) (sym is.1) (line_end_fits text c.args.span.end within),
    )
