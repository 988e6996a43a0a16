use Rattle.std.proofs.Common.{◌≡◌, ◌++◌, map, take, sym, ◌∙◌, ap, append_assoc}
use Rattle.std.specs.List.{flat_map}
use Rattle.std.specs.String.{string_bytes}
use Rattle.lrlex_tokens.specs.TokenModule.{constant_line}
use Rattle.lrlex_tokens.specs.TokenMap.{token_view}
use Rattle.lrlex_tokens.proofs.TokenLemmas.{flat_map_more}
use Rattle.lrlex_tokens.proofs.token_text.push_lines.Goals as goal

pub loop-token-preserved : goal.loop-token-preserved
loop-token-preserved g c =
    let line = constant_line c.args.type_name.now in
    let token = c.token-item.result in
    let before = flat_map line (map token_view (take c.loop-token.token-index c.args.tokens.now)) in
    let added : c.deref.result.now ≡ line (token_view token) = c.deref.ensures ∙ c.in_ok-line.ensures in
    c.in_ok-push_str.ensures.bytes ∙ ap (λ l. string_bytes c.loop-token.text ++ l) added
    ∙ ap (λ l. l ++ line (token_view token)) c.loop-token.invariant
    ∙ append_assoc (string_bytes c.args.text.now) before (line (token_view token))
    ∙ ap (λ l. string_bytes c.args.text.now ++ l) (sym (flat_map_more line token_view c.args.tokens.now c.loop-token.token-index token c.loop-token-test.true c.token-item.is))
