use Rattle.std.proofs.Common.{ap, subst, map}
use Rattle.std.specs.List.{IsDistinct}
use Rattle.std.specs.Str.{bytes_eq}
use Rattle.std.proofs.lemmas.Result.{IfOk-weaker}
use Rattle.lrlex_tokens.specs.TokenModule.{constant_of}
use Rattle.lrlex_examples.proofs.callers.tokens.token_ids.Goals as goal

pub returns : goal.returns
returns c =
    let tokens = ap (λ m. m.tokens) c.in_ok-shown.ensures in
    IfOk-weaker c.build.result _ _ (λ r h. IfOk-weaker r _ _ (λ _ d. (c.in_ok-named.named.tokens, c.in_ok-named.ensures.tokens, subst (λ l. IsDistinct bytes_eq (map constant_of l)) tokens d)) h) c.build.ensures.distinct
