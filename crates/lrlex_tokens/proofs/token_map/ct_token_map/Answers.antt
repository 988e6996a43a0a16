use Rattle.std.proofs.Common.{◌≡◌, List, ℕ, true, map, ◌∙◌, ap}
use Rattle.std.proofs.lemmas.Result.{IfOk-weaker}
use Rattle.lrlex_tokens.specs.TokenModule.{Module, Token, module_text, renamed}
use Rattle.lrlex_tokens.specs.TokenMap.{look_up, written}
use Rattle.lrlex_tokens.proofs.token_map.ct_token_map.Goals as goal

abbrev module_of : List ℕ → List ℕ → List Token → Module
module_of m t ts = record { mod_name = m; type_name = t; tokens = ts; dead_code = true }

pub returns : goal.returns
returns g c =
    let named = c.in_ok-named.named in
    let tokens = map (renamed (look_up c.args.rename_map)) named.tokens in
    let is : c.allow_dead_code-whole.result ≡ module_of c.args.mod_name.now c.args.type_name.now tokens =
    c.allow_dead_code-whole.ensures
    ∙ ap (λ (m : Module). module_of m.mod_name m.type_name m.tokens) c.in_ok-shown.ensures
    ∙ ap (λ m. module_of m named.type_name tokens) c.in_ok-named.ensures.mod_name
    ∙ ap (λ t. module_of c.args.mod_name.now t tokens) c.in_ok-named.ensures.type_name in
    IfOk-weaker c.build.result (λ r. written r ≡ module_text c.allow_dead_code-whole.result) _ (λ r e. (named.tokens, c.in_ok-named.ensures.tokens, e ∙ ap module_text is)) c.build.ensures.module
