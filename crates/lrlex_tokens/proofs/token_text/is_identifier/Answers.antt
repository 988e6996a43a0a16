use Rattle.std.proofs.Common.{◌≡◌, ◌<◌, ◌++◌, ◌==◌, ◌&&◌, ◌||◌, length, sym, ◌∙◌, ap, arith}
use Rattle.std.proofs.lemmas.Bool.{eqb-true, eqb-false}
use Rattle.unicode_ident.specs.Ident.{is_xid_start}
use Rattle.lrlex_tokens.proofs.TokenLemmas.{identifier_alone, identifier_of}
use Rattle.lrlex_tokens.proofs.token_text.is_identifier.Goals as goal
use lib.Utf8.{encode}

pub returns-then-is_empty : goal.returns-then-is_empty
returns-then-is_empty c =
    let spelled : c.args.name.now ≡ encode c.in-Some.first ++ c.as_str-rest.result.now =
    sym c.chars-chars.ensures.rest ∙ c.in-Some.ensures.steps.0 ∙ ap (λ l. encode c.in-Some.first ++ l) (sym c.as_str-rest.ensures) in
    let none : length c.as_str-rest.result.now ≡ 0 = eqb-true _ _ (sym c.is_empty.ensures ∙ c.if-is_empty.true) in
    c.is_xid_start.ensures.value ∙ sym (identifier_alone c.args.name.now c.as_str-rest.result.now c.in-Some.first c.utf8.name spelled none)

pub returns-else-is_empty : goal.returns-else-is_empty
returns-else-is_empty c =
    let first = c.in-Some.first in
    let rest = c.as_str-rest.result.now in
    let spelled : c.args.name.now ≡ encode first ++ rest =
    sym c.chars-chars.ensures.rest ∙ c.in-Some.ensures.steps.0 ∙ ap (λ l. encode first ++ l) (sym c.as_str-rest.ensures) in
    let apart : length rest ≡ 0 → ⊥ = eqb-false _ _ (sym c.is_empty.ensures ∙ c.if-is_empty.false) in
    let some : 0 < length rest = omega (arith, apart) in
    ap (λ b. (b || (first == 95)) && c.all_continue.result) c.is_xid_start-else-is_empty.ensures.value
    ∙ ap (λ b. (is_xid_start first || (first == 95)) && b) c.all_continue.ensures
    ∙ sym (identifier_of c.args.name.now rest first c.utf8.name spelled c.as_str-rest.utf8 some)
