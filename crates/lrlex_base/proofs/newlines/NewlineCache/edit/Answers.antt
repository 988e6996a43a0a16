use Rattle.std.proofs.Common.{◌≡◌, ℕ, ◌+◌, ◌-◌, ◌<◌, ◌≤◌, ◌^◌, ◌++◌, List, length, drop, map, sym, ◌∙◌, ap, subst, arith}
use Rattle.std.proofs.Props.{props}
use Rattle.std.proofs.Math.Logic.{∥∥₁_elim, ∥∥₁_map}
use Rattle.std.specs.List.{All}
use Rattle.lrlex_base.specs.Edits.{edited}
use Rattle.lrlex_base.specs.Places.{AreStartsOfSome, newlines_from, starts_after}
use Rattle.lrlex_base.specs.Spans.{span}
use Rattle.lrlex_base.proofs.NewlineLemmas.{newlines_back, starts_of_view, starts_positive}
use Rattle.lrlex_base.proofs.NewlineEditLemmas.{begun_rises, behind_movable, edited_is, edited_length, found_at}
use Rattle.lrlex_base.proofs.newlines.NewlineCache.edit.Goals as goal

pub put_starts-requires-clause-first : goal.put_starts-requires-clause-first
put_starts-requires-clause-first g c =
    let S = c.self.inside.starts.items in
    let from = c.args.removed.start in
    let to = c.args.removed.end in
    let put = c.args.put.now in
    let fed : c.self.inside.bytes ≡ c.args.self.now.fed = ap (λ v. v.fed) c.self.view_is in
    ∥∥₁_elim c.self.invariant.1 (Prim.hlevel props) (λ w.
    let within : to ≤ length w.0 = omega (arith, w.1, c.requires.removed) in
    let first = found_at S c.deref.result.now w.0 from c.start.result c.lines_begun-first.result w.2 c.deref.ensures.value c.start.ensures (omega (arith, c.args.removed.in_order)) c.lines_begun-first.ensures.count in
    let behind = found_at S c.deref-2.result.now w.0 to c.end.result c.lines_begun-behind.result w.2 c.deref-2.ensures.value c.end.ensures within c.lines_begun-behind.ensures.count in
    omega (arith, begun_rises w.0 from to c.args.removed.in_order within))

pub put_starts-requires-clause-movable : goal.put_starts-requires-clause-movable
put_starts-requires-clause-movable g c =
    let S = c.self.inside.starts.items in
    let from = c.args.removed.start in
    let to = c.args.removed.end in
    let put = c.args.put.now in
    let fed : c.self.inside.bytes ≡ c.args.self.now.fed = ap (λ v. v.fed) c.self.view_is in
    let end : c.end-2.result ≡ to = c.end-2.ensures in
    let start : c.start-3.result ≡ from = c.start-3.ensures in
    let next = c.start-3.result + length put in
    let m = c.lines_begun-behind.result in
    let P : ℕ → ℕ → Type 0 = λ e s. (e ≤ s) × (s - e + next < 2 ^ 64) in
    let all : (text : List ℕ) → c.self.inside.bytes ≡ length text → S ≡ starts_after (newlines_from 0 text) → All (P c.end-2.result) (drop m S) =
    λ text long is.
    let within : to ≤ length text = omega (arith, c.requires.removed) in
    let behind = found_at S c.deref-2.result.now text to c.end.result m is c.deref-2.ensures.value c.end.ensures within c.lines_begun-behind.ensures.count in
    subst (λ e. All (P e) (drop m S)) (sym end) (behind_movable S text to m next is within behind (omega (arith, c.requires.put, c.requires.removed, c.args.removed.in_order))) in
    λ k d l. (∥∥₁_elim c.self.invariant.1 (Prim.hlevel props) (λ w. (all w.0 w.1 w.2 k d l).0), ∥∥₁_elim c.self.invariant.1 (Prim.hlevel props) (λ w. (all w.0 w.1 w.2 k d l).1))

pub invariant_of-self : goal.invariant_of-self
invariant_of-self g c =
    subst (λ S. All (λ s. 0 < s) S × AreStartsOfSome c.self.inside.bytes S) (sym c.in_err-put_starts.ensures.err) c.self.invariant

pub invariant_of-self-2 : goal.invariant_of-self-2
invariant_of-self-2 g c =
    let S = c.self.inside.starts.items in
    let from = c.args.removed.start in
    let to = c.args.removed.end in
    let put = c.args.put.now in
    let V = c.put_starts.new.starts.items in
    let bytes = c.self.inside.bytes - c.len.result + length put in
    let fed : c.self.inside.bytes ≡ c.args.self.now.fed = ap (λ v. v.fed) c.self.view_is in
    let cut : c.len.result ≡ to - from = c.len.ensures in
    let within : (text : List ℕ) → c.self.inside.bytes ≡ length text → to ≤ length text = λ text long. omega (arith, c.requires.removed) in
    let made : c.add_starts.new.starts.items ≡ starts_after (newlines_from c.start-2.result put) = c.in_ok-add_starts.ensures.ok ∙ ap (λ l. l ++ starts_after (newlines_from c.start-2.result put)) c.new-added.ensures.items in
    let all : (text : List ℕ) → c.self.inside.bytes ≡ length text → S ≡ starts_after (newlines_from 0 text) → V ≡ starts_after (newlines_from 0 (edited text (span from to) put)) =
    λ text long is.
    edited_is S V c.add_starts.new.starts.items text put from to c.lines_begun-first.result c.lines_begun-behind.result c.start-2.result c.end-2.result (c.start-3.result + length put) is
    c.args.removed.in_order (within text long)
    (found_at S c.deref.result.now text from c.start.result c.lines_begun-first.result is c.deref.ensures.value c.start.ensures (omega (arith, within text long, c.args.removed.in_order)) c.lines_begun-first.ensures.count)
    (found_at S c.deref-2.result.now text to c.end.result c.lines_begun-behind.result is c.deref-2.ensures.value c.end.ensures (within text long) c.lines_begun-behind.ensures.count)
    made c.start-2.ensures c.end-2.ensures (omega (arith, c.start-3.ensures)) c.in_ok-put_starts.ensures.ok in
    let long : (text : List ℕ) → c.self.inside.bytes ≡ length text → bytes ≡ length (edited text (span from to) put) =
    λ text l. ap (λ n. c.self.inside.bytes - n + length put) cut ∙ edited_length text put from to c.self.inside.bytes l c.args.removed.in_order (within text l) in (
      λ k d l.
          ∥∥₁_elim c.self.invariant.1 (Prim.hlevel props) (λ w.
          let positive : All (λ s. 0 < s) V = subst (All (λ s. 0 < s)) (sym (all w.0 w.1 w.2)) (starts_positive (newlines_from 0 (edited w.0 (span from to) put))) in positive k d l),
      ∥∥₁_map c.self.invariant.1 (λ w. (edited w.0 (span from to) put, long w.0 w.1, all w.0 w.1 w.2)),
    )

pub returns-clause-edited : goal.returns-clause-edited
returns-clause-edited g c text breaks =
    let S = c.self.inside.starts.items in
    let from = c.args.removed.start in
    let to = c.args.removed.end in
    let put = c.args.put.now in
    let V = c.put_starts.new.starts.items in
    let fed : c.self.inside.bytes ≡ c.args.self.now.fed = ap (λ v. v.fed) c.self.view_is in
    let long : c.self.inside.bytes ≡ length text = fed ∙ breaks.0 in
    let within : to ≤ length text = omega (arith, c.requires.removed) in
    let cut : c.len.result ≡ to - from = c.len.ensures in
    let is : S ≡ starts_after (newlines_from 0 text) = starts_of_view S c.args.self.now.newlines text c.self.invariant.0 (ap (λ v. v.newlines) c.self.view_is) breaks.1 in
    let made : c.add_starts.new.starts.items ≡ starts_after (newlines_from c.start-2.result put) = c.in_ok-add_starts.ensures.ok ∙ ap (λ l. l ++ starts_after (newlines_from c.start-2.result put)) c.new-added.ensures.items in
    let all : V ≡ starts_after (newlines_from 0 (edited text (span from to) put)) =
    edited_is S V c.add_starts.new.starts.items text put from to c.lines_begun-first.result c.lines_begun-behind.result c.start-2.result c.end-2.result (c.start-3.result + length put) is
    c.args.removed.in_order within
    (found_at S c.deref.result.now text from c.start.result c.lines_begun-first.result is c.deref.ensures.value c.start.ensures (omega (arith, c.args.removed.in_order)) c.lines_begun-first.ensures.count)
    (found_at S c.deref-2.result.now text to c.end.result c.lines_begun-behind.result is c.deref-2.ensures.value c.end.ensures within c.lines_begun-behind.ensures.count)
    made c.start-2.ensures c.end-2.ensures (omega (arith, c.start-3.ensures)) c.in_ok-put_starts.ensures.ok in (
      ap (λ n. c.self.inside.bytes - n + length put) cut ∙ edited_length text put from to c.self.inside.bytes long c.args.removed.in_order within,
      ap (map (λ s. s - 1)) all ∙ newlines_back (newlines_from 0 (edited text (span from to) put)),
    )
