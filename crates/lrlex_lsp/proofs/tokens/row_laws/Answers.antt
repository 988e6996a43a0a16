use Rattle.std.proofs.Common.{◌^◌, ◌<◌, ℕ, length, ap, subst, arith}
use Rattle.std.specs.List.{All}
use Rattle.std.specs.Str.{IsUtf8}
use Rattle.std.proofs.lemmas.List.Elements.{All-from_get_or}
use Rattle.lrlex.specs.Views.{definition_of, items_by}
use Rattle.lrlex.specs.Words.{lexeme_seen}
use Rattle.lrlex_lsp.proofs.ShownLemmas.{in_row}
use Rattle.lrlex_lsp.proofs.tokens.row_laws.Goals as goal

pub returns : goal.returns
returns c from to pieces are =
    let document = c.args.document.now in
    let text = document.text in
    let d = definition_of (λ (n : ℕ). n) document.definition in
    let found = items_by (λ (n : ℕ). n) lexeme_seen document.items in
    let bytes : All (λ b. b < 256) text = subst (All (λ b. b < 256)) c.requires (All-from_get_or (λ b. b < 256) c.args.text.now 0 (λ i _. omega (arith, c.type_inv.text i))) in
    let small : length text < 2 ^ 64 = omega (arith, c.text.type_inv.0, ap length c.text.ensures) in
    in_row d text found document.boundaries from to pieces (subst IsUtf8 c.text.ensures c.text.utf8) bytes small c.laws.ensures.run are
    (c.piece_laws.ensures.part d text found document.boundaries are.first pieces c.laws.ensures.run are.tiles)
