use Rattle.std.proofs.Common.{◌≡◌, [], None, map, sym, ◌∙◌, ap, subst, rules}
use Rattle.std.specs.Option.{option_map}
use Rattle.std.specs.List.{IsDistinct}
use Rattle.std.specs.Str.{bytes_eq}
use Rattle.lrlex_tokens.specs.TokenModule.{constant_of, first_fault}
use Rattle.lrlex_tokens.specs.TokenMap.{fault_view, token_view}
use Rattle.lrlex_tokens.proofs.TokenLemmas.{constants_distinct}
use Rattle.lrlex_tokens.proofs.token_map.CTTokenMapBuilder.build.Goals as goal

pub returns-clause-distinct : goal.returns-clause-distinct
unfolding IsDistinct
returns-clause-distinct g c =
    let tokens = map token_view c.deref-3.result.now in
    let same : tokens ≡ c.args.self.now.tokens = ap (map token_view) c.deref-3.ensures.value ∙ ap (λ v. v.tokens) c.self.view_is in
    let accepted : first_fault [] tokens ≡ None = sym c.in_ok-fault.ensures ∙ ap (option_map fault_view) c.in_default.is in
    let none : IsDistinct bytes_eq [] = search rules in
    subst (λ l. IsDistinct bytes_eq (map constant_of l)) same (constants_distinct [] tokens accepted none)
