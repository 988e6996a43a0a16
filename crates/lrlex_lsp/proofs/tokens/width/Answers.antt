use Rattle.std.proofs.Common.{◌≡◌, ◌++◌, map, length, sym, ◌∙◌, ap, ap₂, subst}
use Rattle.std.specs.List.{concat}
use Rattle.std.specs.Str.{chars, IsUtf8}
use Rattle.std.specs.Char.Escape.{encode_utf16}
use Rattle.std.proofs.lemmas.Iterator.Consumers.{count_from_yields_List}
use Rattle.lrlex_positions.specs.Columns.{width}
use Rattle.lrlex_positions.proofs.Utf16Lemmas.{units_encode}
use Rattle.lrlex_lsp.proofs.WidthLemmas.{units_given, units_left}
use Rattle.lrlex_lsp.proofs.tokens.width.Goals as goal

pub returns-in-Utf16 : goal.returns-in-Utf16
returns-in-Utf16 c =
    let text = c.args.text.now in
    let s = c.encode_utf16.result in
    let given : c.count.result ≡ length (units_left s) = count_from_yields_List s c.count.result c.count.ensures.ran (units_given s (subst IsUtf8 (sym c.encode_utf16.ensures.text) c.utf8.text)) in
    given ∙ ap₂ (λ p r. length (p ++ concat (map encode_utf16 (chars r)))) c.encode_utf16.ensures.pending c.encode_utf16.ensures.text
    ∙ sym (units_encode (chars text)) ∙ ap (λ e. width e text) (sym c.in-Utf16.is)
