use Rattle.std.proofs.Common.{◌≡◌, ◌≤◌, ◌<◌, ◌-◌, ◌∙◌, length, get_or, take, sym, ap, ap₂, subst, arith}
use Rattle.std.proofs.Props.{props}
use Rattle.std.proofs.Math.Logic.{∥∥₁_elim}
use Rattle.std.specs.List.{count_by}
use Rattle.std.specs.Str.{IsCharBoundary}
use Rattle.std.proofs.lemmas.Grind.{get_or_default_zero}
use Rattle.lrlex_base.specs.Places.{newlines_from, starts_after, is_newline, whole_lines}
use Rattle.lrlex_base.specs.Spans.{span, at_place}
use Rattle.lrlex_base.proofs.NewlineLemmas.{starts_of_view, begin_fits, line_end_fits, line_known}
use Rattle.lrlex_base.proofs.newlines.NewlineCache.line_span.Goals as goal
use Rattle.lrlex_base.proofs.newlines.NewlineCache.line_span.Goals.{then-line-len-2, else-line-len-2}

pub new-requires : goal.new-requires
new-requires g c =
    let S = c.self.inside.starts.items in
    let count : length S ≡ c.len-2.result = sym (ap length c.deref.ensures.value) ∙ c.deref.ensures.len ∙ sym c.len-2.ensures in
    let bound : c.args.line ≤ length S = omega (arith, c.if-line-len.false, sym (ap length c.deref.ensures.value) ∙ c.deref.ensures.len ∙ sym c.len.ensures) in
    let inner : c.args.line < length S → c.if-line-len-2.end ≡ get_or S c.args.line 0 - 1 =
    λ l. elim c.if-line-len-2.branch [
      | then-line-len-2 w ↦ let here : w.index.result.now ≡ get_or S c.args.line 0 = w.index.ensures ∙ get_or_default_zero S c.args.line w.index.result.now l in omega (arith, w.end-is, here)
      | else-line-len-2 w ↦ absurd (omega (arith, w.if-line-len-2.false, count, l))
    ] in
    let last : length S ≤ c.args.line → c.if-line-len-2.end ≡ c.self.inside.bytes =
    λ g. elim c.if-line-len-2.branch [ then-line-len-2 w ↦ absurd (omega (arith, w.if-line-len-2.true, count, g)) | else-line-len-2 w ↦ w.end-is ] in
    ∥∥₁_elim c.self.invariant.1 (Prim.hlevel props) (λ w.
    let line = line_known S c.deref.result.now w.0 c.args.line c.line_begin-begin.result c.if-line-len-2.end c.self.inside.bytes w.2 c.deref.ensures.value w.1 bound c.line_begin-begin.ensures inner last in
    omega (arith, line.end))

pub returns-clause-number : goal.returns-clause-number
returns-clause-number g c text breaks =
    let S = c.self.inside.starts.items in
    let fed : c.self.inside.bytes ≡ c.args.self.now.fed = ap (λ v. v.fed) c.self.view_is in
    let is : S ≡ starts_after (newlines_from 0 text) = starts_of_view S c.args.self.now.newlines text c.self.invariant.0 (ap (λ v. v.newlines) c.self.view_is) breaks.1 in
    let count : length S ≡ c.len-2.result = sym (ap length c.deref.ensures.value) ∙ c.deref.ensures.len ∙ sym c.len-2.ensures in
    let bound : c.args.line ≤ length S = omega (arith, c.if-line-len.false, sym (ap length c.deref.ensures.value) ∙ c.deref.ensures.len ∙ sym c.len.ensures) in
    let inner : c.args.line < length S → c.if-line-len-2.end ≡ get_or S c.args.line 0 - 1 =
    λ l. elim c.if-line-len-2.branch [
      | then-line-len-2 w ↦ let here : w.index.result.now ≡ get_or S c.args.line 0 = w.index.ensures ∙ get_or_default_zero S c.args.line w.index.result.now l in omega (arith, w.end-is, here)
      | else-line-len-2 w ↦ absurd (omega (arith, w.if-line-len-2.false, count, l))
    ] in
    let last : length S ≤ c.args.line → c.if-line-len-2.end ≡ c.self.inside.bytes =
    λ g. elim c.if-line-len-2.branch [ then-line-len-2 w ↦ absurd (omega (arith, w.if-line-len-2.true, count, g)) | else-line-len-2 w ↦ w.end-is ] in
    let line = line_known S c.deref.result.now text c.args.line c.line_begin-begin.result c.if-line-len-2.end c.self.inside.bytes is c.deref.ensures.value (fed ∙ breaks.0) bound c.line_begin-begin.ensures inner last in
    ap (λ i. count_by is_newline (take i text)) c.new.ensures.start ∙ line.number

pub returns-clause-whole : goal.returns-clause-whole
returns-clause-whole g c text breaks =
    let S = c.self.inside.starts.items in
    let fed : c.self.inside.bytes ≡ c.args.self.now.fed = ap (λ v. v.fed) c.self.view_is in
    let is : S ≡ starts_after (newlines_from 0 text) = starts_of_view S c.args.self.now.newlines text c.self.invariant.0 (ap (λ v. v.newlines) c.self.view_is) breaks.1 in
    let count : length S ≡ c.len-2.result = sym (ap length c.deref.ensures.value) ∙ c.deref.ensures.len ∙ sym c.len-2.ensures in
    let bound : c.args.line ≤ length S = omega (arith, c.if-line-len.false, sym (ap length c.deref.ensures.value) ∙ c.deref.ensures.len ∙ sym c.len.ensures) in
    let inner : c.args.line < length S → c.if-line-len-2.end ≡ get_or S c.args.line 0 - 1 =
    λ l. elim c.if-line-len-2.branch [
      | then-line-len-2 w ↦ let here : w.index.result.now ≡ get_or S c.args.line 0 = w.index.ensures ∙ get_or_default_zero S c.args.line w.index.result.now l in omega (arith, w.end-is, here)
      | else-line-len-2 w ↦ absurd (omega (arith, w.if-line-len-2.false, count, l))
    ] in
    let last : length S ≤ c.args.line → c.if-line-len-2.end ≡ c.self.inside.bytes =
    λ g. elim c.if-line-len-2.branch [ then-line-len-2 w ↦ absurd (omega (arith, w.if-line-len-2.true, count, g)) | else-line-len-2 w ↦ w.end-is ] in
    let line = line_known S c.deref.result.now text c.args.line c.line_begin-begin.result c.if-line-len-2.end c.self.inside.bytes is c.deref.ensures.value (fed ∙ breaks.0) bound c.line_begin-begin.ensures inner last in
    let b = c.line_begin-begin.result in
    let whole : span b c.if-line-len-2.end ≡ whole_lines text (at_place b) = ap₂ span (omega (arith, line.begins)) line.end in
    ap₂ span c.new.ensures.start c.new.ensures.end ∙ whole ∙ ap (λ i. whole_lines text (at_place i)) (sym c.new.ensures.start)

pub returns-clause-fits : goal.returns-clause-fits
returns-clause-fits g c text utf8 breaks =
    let S = c.self.inside.starts.items in
    let fed : c.self.inside.bytes ≡ c.args.self.now.fed = ap (λ v. v.fed) c.self.view_is in
    let is : S ≡ starts_after (newlines_from 0 text) = starts_of_view S c.args.self.now.newlines text c.self.invariant.0 (ap (λ v. v.newlines) c.self.view_is) breaks.1 in
    let count : length S ≡ c.len-2.result = sym (ap length c.deref.ensures.value) ∙ c.deref.ensures.len ∙ sym c.len-2.ensures in
    let bound : c.args.line ≤ length S = omega (arith, c.if-line-len.false, sym (ap length c.deref.ensures.value) ∙ c.deref.ensures.len ∙ sym c.len.ensures) in
    let inner : c.args.line < length S → c.if-line-len-2.end ≡ get_or S c.args.line 0 - 1 =
    λ l. elim c.if-line-len-2.branch [
      | then-line-len-2 w ↦ let here : w.index.result.now ≡ get_or S c.args.line 0 = w.index.ensures ∙ get_or_default_zero S c.args.line w.index.result.now l in omega (arith, w.end-is, here)
      | else-line-len-2 w ↦ absurd (omega (arith, w.if-line-len-2.false, count, l))
    ] in
    let last : length S ≤ c.args.line → c.if-line-len-2.end ≡ c.self.inside.bytes =
    λ g. elim c.if-line-len-2.branch [ then-line-len-2 w ↦ absurd (omega (arith, w.if-line-len-2.true, count, g)) | else-line-len-2 w ↦ w.end-is ] in
    let line = line_known S c.deref.result.now text c.args.line c.line_begin-begin.result c.if-line-len-2.end c.self.inside.bytes is c.deref.ensures.value (fed ∙ breaks.0) bound c.line_begin-begin.ensures inner last in
    let low : c.line_begin-begin.result ≤ length text = line.within in (
      subst (IsCharBoundary text) (sym c.new.ensures.start) (begin_fits S c.deref.result.now text c.args.line c.line_begin-begin.result utf8 is c.deref.ensures.value (omega (arith, bound, ap length c.deref.ensures.value)) c.line_begin-begin.ensures),
      subst (IsCharBoundary text) (sym (c.new.ensures.end ∙ line.end)) (line_end_fits text c.line_begin-begin.result low),
    )
