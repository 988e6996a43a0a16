use Rattle.std.proofs.Common.{◌≡◌, ◌+◌, ◌/◌, ◌≤◌, get_or, sym, ap, ◌∙◌, length, arith}
use Rattle.std.proofs.Math.Nat.{div-mul-le_self}
use Rattle.std.proofs.lemmas.Iterator.{YieldsList-from_chars}
use Rattle.std.proofs.lemmas.Iterator.Consumers.{count_from_yields_List}
use Rattle.lrlex_report.specs.CharCounts.{chars_before}
use Rattle.lrlex_report.proofs.CharCountLemmas.{before_most, counted, kept_within, kept_is, kept_length}
use Rattle.lrlex_report.proofs.char_counts.chars_before.Goals as goal

pub bounds-counts-at : goal.bounds-counts-at
bounds-counts-at c = omega (arith, kept_within c.args.text.now c.args.at c.requires.at.0, ap length c.requires.counts, kept_length c.args.text.now)

all : (c : goal.After-count) → get_or c.args.counts.now (c.args.at / 128) 0 + c.count.result ≡ chars_before c.args.text.now c.args.at
all c =
    let text = c.args.text.now in
    let at = c.args.at in
    let from = c.nearest-from in
    let below : from.result ≤ at = omega (arith, from.ensures.bound, div-mul-le_self at 128) in
    let kept : get_or c.args.counts.now (at / 128) 0 ≡ chars_before text from.result =
    ap (λ xs. get_or xs (at / 128) 0) c.requires.counts ∙ kept_is text at c.requires.at.0 ∙ ap (chars_before text) (sym from.ensures.value) in
    let count = count_from_yields_List _ c.count.result c.count.ensures.ran (YieldsList-from_chars c.range.result.now c.range.utf8 cc) in
    counted text from.result at (get_or c.args.counts.now (at / 128) 0) c.count.result c.range.result.now c.utf8.text from.ensures.boundary below kept c.range.ensures.value count

pub overflow_add-result : goal.overflow_add-result
overflow_add-result c = omega (arith, all c, before_most c.args.text.now c.args.at c.utf8.text c.requires.at, c.requires.at.0)

pub returns : goal.returns
returns c = all c
