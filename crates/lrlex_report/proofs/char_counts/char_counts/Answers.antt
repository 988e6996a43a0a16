use Rattle.std.proofs.Common.{◌≡◌, ℕ, ◌+◌, ◌*◌, List, [], ◌∷◌, ◌++◌, map, sym, ap, ◌∙◌, arith}
use Rattle.std.specs.List.{range_with_len}
use Rattle.std.proofs.lemmas.Iterator.{YieldsList-from_chars}
use Rattle.std.proofs.lemmas.Iterator.Consumers.{count_from_yields_List}
use Rattle.std.proofs.lemmas.List.FromFn.{map-range_with_len_more}
use Rattle.std.proofs.lemmas.Str.{IsCharBoundary-start}
use Rattle.lrlex_report.specs.CharCounts.{chars_before}
use Rattle.lrlex_report.specs.PlaceTexts.{nearest}
use Rattle.lrlex_report.proofs.CharCountLemmas.{before_start, before_most, counted}
use Rattle.lrlex_report.proofs.char_counts.char_counts.Goals as goal

pub loop-k-init : goal.loop-k-init
loop-k-init c = (IsCharBoundary-start c.args.text.now c.utf8.text, omega arith, before_start c.args.text.now, c.new-counts.ensures.items)

pub overflow_add-before : goal.overflow_add-before
overflow_add-before c =
    let text = c.args.text.now in
    let i = c.loop-k.invariant in
    let to = c.nearest-to in
    let count = count_from_yields_List _ c.count-before.result c.count-before.ensures.ran (YieldsList-from_chars c.range.result.now c.range.utf8 cc) in
    let all = counted text c.loop-k.from to.result c.loop-k.before c.count-before.result c.range.result.now c.utf8.text i.0 (to.ensures.greatest c.loop-k.from i.1 i.0) i.2 c.range.ensures.value count in
    omega (arith, all, before_most text to.result c.utf8.text to.ensures.boundary, to.ensures.boundary.0)

pub loop-k-preserved : goal.loop-k-preserved
loop-k-preserved c =
    let text = c.args.text.now in
    let k = c.loop-k.k in
    let i = c.loop-k.invariant in
    let to = c.nearest-to in
    let so_far : ℕ → ℕ = λ n. chars_before text (nearest text (n * 128)) in
    let count = count_from_yields_List _ c.count-before.result c.count-before.ensures.ran (YieldsList-from_chars c.range.result.now c.range.utf8 cc) in
    let all = counted text c.loop-k.from to.result c.loop-k.before c.count-before.result c.range.result.now c.utf8.text i.0 (to.ensures.greatest c.loop-k.from i.1 i.0) i.2 c.range.ensures.value count in
    let same : c.loop-k.before + c.count-before.result ≡ so_far k = all ∙ ap (chars_before text) to.ensures.value in
    let items : c.push.new.self.items ≡ map so_far (range_with_len 0 (k + 1)) =
    c.in_ok-push.ensures.items ∙ ap (λ (xs : List ℕ). xs ++ (c.loop-k.before + c.count-before.result) ∷ []) i.3 ∙ ap (λ (n : ℕ). map so_far (range_with_len 0 k) ++ n ∷ []) same
    ∙ sym (map-range_with_len_more so_far 0 k k (omega arith)) in
    (to.ensures.boundary, omega (arith, to.ensures.bound), all, items)
