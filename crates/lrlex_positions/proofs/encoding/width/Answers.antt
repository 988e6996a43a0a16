use Rattle.std.proofs.Common.{rules, ◌≡◌, ◌+◌, length, ◌∙◌, sym, ap, arith}
use Rattle.std.specs.Str.{chars}
use Rattle.std.proofs.lemmas.Str.{chars_from_encodes}
use Rattle.lrlex_positions.specs.Columns.{units, width}
use Rattle.lrlex_positions.proofs.Utf16Lemmas.{units_fit}
use Rattle.lrlex_positions.proofs.encoding.width.Goals as goal

pub overflow_add-result : goal.overflow_add-result
overflow_add-result c =
    let text = c.args.text.now in
    let counted : c.count.result ≡ length (chars text) = search (rules, chars_from_encodes) in
    omega (arith, counted, c.wide.ensures, units_fit text c.utf8.text)

pub returns-in-Utf16 : goal.returns-in-Utf16
returns-in-Utf16 c =
    let text = c.args.text.now in
    let counted : c.count.result ≡ length (chars text) = search (rules, chars_from_encodes) in
    let both : c.count.result + c.wide.result ≡ units (chars text) = omega (arith, counted, c.wide.ensures) in
    both ∙ ap (λ e. width e text) (sym c.in-Utf16.is)
