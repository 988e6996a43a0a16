use Rattle.std.proofs.Common.{◌≡◌, map, get_or, sym, ◌∙◌, ap, arith}
use Rattle.std.specs.Str.{bytes_eq}
use Rattle.std.specs.String.{string_bytes}
use Rattle.std.proofs.lemmas.List.{get_or-map, length-map}
use Rattle.std.proofs.lemmas.List.Folds.{list_any_at}
use Rattle.lrlex_tokens.proofs.token_text.holds.Goals as goal

pub returns-then-eq : goal.returns-then-eq
returns-then-eq g c =
    let x = c.c-item.result in
    let all = c.args.constants.now in
    let at : get_or (map string_bytes all) c.loop-c.c-index (string_bytes x) ≡ c.as_str.result.now =
    get_or-map string_bytes all c.loop-c.c-index x (string_bytes x) c.loop-c-test.true ∙ ap string_bytes (sym c.c-item.is) ∙ sym c.as_str.ensures.value in
    sym (list_any_at (bytes_eq c.args.constant.now) (map string_bytes all) c.loop-c.c-index (string_bytes x) (omega (arith, c.loop-c-test.true, length-map all string_bytes))
    (ap (bytes_eq c.args.constant.now) at ∙ sym c.eq.ensures ∙ c.if-eq.true))
