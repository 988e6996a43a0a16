use Rattle.std.proofs.Common.{◌≡◌, ◌+◌, ◌++◌, ◌∷◌, [], List, ℕ, map, take, sym, ap, ap₂, ◌∙◌}
use Rattle.std.specs.Prelude.{unwrap_or}
use Rattle.std.specs.String.{string_bytes}
use Rattle.std.proofs.lemmas.List.{map_more, map-append}
use Rattle.lrlex_tokens.specs.TokenMap.{look_up, token_view}
use Rattle.lrlex_tokens.specs.TokenModule.{Token, renamed}
use Rattle.lrlex_tokens.proofs.tokens.renamed_tokens.Goals as goal

abbrev token : List ℕ → List ℕ → List ℕ → Token
token name shown id = record { name = name; shown = shown; id = id }

pub loop-token-preserved : goal.loop-token-preserved
loop-token-preserved g c =
    let before = take c.loop-token.token-index c.args.tokens.now in
    let it = c.token-item.result in
    let names = look_up c.args.renames in
    let name = c.in_ok-from_str.ensures.ok ∙ c.deref-in-loop-token.ensures in
    let shown = c.in_ok-from_str-2.ensures.ok ∙ c.shown_as-shown.ensures ∙ ap (λ n. unwrap_or (names n) n) c.deref.ensures in
    let id = c.in_ok-from_str-3.ensures.ok ∙ c.deref-in-loop-token-2.ensures in
    let made = token_view (record { name = c.in_ok-from_str.field-0; shown = c.in_ok-from_str-2.field-0; id = c.in_ok-from_str-3.field-0 }) in
    let seen : made ≡ renamed names (token_view it) =
    ap (λ n. token n made.shown made.id) name ∙ ap (λ s. token (string_bytes it.name) s made.id) shown
    ∙ ap (λ n. token (string_bytes it.name) (unwrap_or (names (string_bytes it.name)) (string_bytes it.name)) n) id in
    let more : map token_view (take (c.loop-token.token-index + 1) c.args.tokens.now) ≡ map token_view before ++ token_view it ∷ [] =
    map_more token_view c.args.tokens.now c.loop-token.token-index it c.loop-token-test.true ∙ ap (λ t. map token_view before ++ token_view t ∷ []) (sym c.token-item.is) in
    ap (map token_view) c.in_ok-push.ensures.items ∙ map-append token_view c.loop-token.all.items _ ∙ ap₂ (λ xs x. xs ++ x ∷ []) c.loop-token.invariant seen
    ∙ sym (map-append (renamed names) (map token_view before) (token_view it ∷ [])) ∙ ap (map (renamed names)) (sym more)
