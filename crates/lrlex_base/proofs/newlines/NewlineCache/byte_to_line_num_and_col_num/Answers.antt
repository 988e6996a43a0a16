use Rattle.std.proofs.Common.{◌≡◌, ◌+◌, ◌≤◌, length, take, sym, ◌∙◌, ap, subst, rules, arith}
use Rattle.std.specs.List.{count_by, after_last}
use Rattle.std.specs.Str.{chars}
use Rattle.std.proofs.lemmas.Str.{chars_from_encodes}
use Rattle.lrlex_base.specs.Places.{newlines_from, starts_after, is_newline, line_of, column_of}
use Rattle.lrlex_base.proofs.NewlineLemmas.{starts_of_view, begin_is, begin_fits, line_front}
use Rattle.lrlex_base.proofs.newlines.NewlineCache.byte_to_line_num_and_col_num.Goals as goal

pub range-requires-clause-start_le_end : goal.range-requires-clause-start_le_end
range-requires-clause-start_le_end g c =
    let src = c.args.src.now in
    let fed : c.self.inside.bytes ≡ c.args.self.now.fed = ap (λ v. v.fed) c.self.view_is in
    let S = c.self.inside.starts.items in
    let is : S ≡ starts_after (newlines_from 0 src) = starts_of_view S c.args.self.now.newlines src c.self.invariant.0 (ap (λ v. v.newlines) c.self.view_is) (c.requires.newlines (omega arith)) in
    let n : c.lines_begun-n.result ≡ count_by is_newline (take c.args.byte src) = c.lines_begun-n.ensures.count src (omega arith) (c.deref.ensures.value ∙ is) in
    omega (arith, begin_is S c.deref-2.result.now src c.args.byte c.lines_begun-n.result c.line_begin-begin.result is c.deref-2.ensures.value (omega arith) n c.line_begin-begin.ensures)

pub range-requires-clause-start_boundary : goal.range-requires-clause-start_boundary
range-requires-clause-start_boundary g c _ =
    let src = c.args.src.now in
    let fed : c.self.inside.bytes ≡ c.args.self.now.fed = ap (λ v. v.fed) c.self.view_is in
    let S = c.self.inside.starts.items in
    let is : S ≡ starts_after (newlines_from 0 src) = starts_of_view S c.args.self.now.newlines src c.self.invariant.0 (ap (λ v. v.newlines) c.self.view_is) (c.requires.newlines (omega arith)) in
    let same : c.deref.result.now ≡ c.deref-2.result.now = c.deref.ensures.value ∙ sym c.deref-2.ensures.value in
    let bound : c.lines_begun-n.result ≤ length c.deref-2.result.now = subst (λ l. c.lines_begun-n.result ≤ length l) same c.lines_begun-n.ensures.bound in
    begin_fits S c.deref-2.result.now src c.lines_begun-n.result c.line_begin-begin.result c.utf8.src is c.deref-2.ensures.value bound c.line_begin-begin.ensures

pub returns-clause-place : goal.returns-clause-place
returns-clause-place g c =
    let src = c.args.src.now in
    let at = c.args.byte in
    let fed : c.self.inside.bytes ≡ c.args.self.now.fed = ap (λ v. v.fed) c.self.view_is in
    let S = c.self.inside.starts.items in
    let is : S ≡ starts_after (newlines_from 0 src) = starts_of_view S c.args.self.now.newlines src c.self.invariant.0 (ap (λ v. v.newlines) c.self.view_is) (c.requires.newlines (omega arith)) in
    let n : c.lines_begun-n.result ≡ count_by is_newline (take at src) = c.lines_begun-n.ensures.count src (omega arith) (c.deref.ensures.value ∙ is) in
    let begin : c.line_begin-begin.result + length (after_last is_newline (take at src)) ≡ at =
    begin_is S c.deref-2.result.now src at c.lines_begun-n.result c.line_begin-begin.result is c.deref-2.ensures.value (omega arith) n c.line_begin-begin.ensures in
    let front : c.range.result.now ≡ after_last is_newline (take at src) = c.range.ensures.value ∙ line_front src at c.line_begin-begin.result (omega arith) begin in
    let counted : c.count-front.result ≡ length (chars c.range.result.now) = search (rules, chars_from_encodes) in
    let line : c.lines_begun-n.result + 1 ≡ line_of src at = omega arith in
    let column : 1 + c.count-front.result ≡ column_of src at = ap (λ m. 1 + m) (counted ∙ ap (λ l. length (chars l)) front) in
    cc
