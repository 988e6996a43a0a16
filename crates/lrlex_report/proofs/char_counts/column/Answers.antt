use Rattle.std.proofs.Common.{◌+◌, ◌-◌, ap₂, ◌∙◌, arith}
use Rattle.lrlex_report.proofs.CharCountLemmas.{before_most, column_is}
use Rattle.lrlex_report.proofs.char_counts.column.Goals as goal

pub overflow_sub-result : goal.overflow_sub-result
overflow_sub-result c =
    let is = column_is c.args.text.now c.args.begin c.args.at c.utf8.text c.requires.at c.requires.line c.requires.begin in
    omega (arith, is.0, c.chars_before.ensures, c.chars_before-2.ensures)

pub overflow_add-result : goal.overflow_add-result
overflow_add-result c = omega (arith, before_most c.args.text.now c.args.at c.utf8.text c.requires.at, c.requires.at.0, c.chars_before.ensures)

pub returns : goal.returns
returns c =
    let is = column_is c.args.text.now c.args.begin c.args.at c.utf8.text c.requires.at c.requires.line c.requires.begin in
    ap₂ (λ m n. 1 + (m - n)) c.chars_before.ensures c.chars_before-2.ensures ∙ is.1
