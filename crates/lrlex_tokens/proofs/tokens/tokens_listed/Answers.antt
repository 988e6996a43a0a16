use Rattle.std.proofs.Common.{Bor, String, Global, ◌≡◌, ◌++◌, ◌∷◌, [], List, ℕ, map, sym, ◌∙◌, ap, subst, rules}
use Rattle.std.specs.List.{All, Contains}
use Rattle.std.specs.Map.Iter.{deref_pair}
use Rattle.std.specs.String.{string_bytes}
use Rattle.std.proofs.lemmas.List.{map-append}
use Rattle.std.proofs.lemmas.List.Elements.{All-push}
use Rattle.std.proofs.lemmas.Map.Iter.{rest_so_far, rest_more, iter_end}
use Rattle.std.proofs.lemmas.Simd.{map-map}
use Rattle.lrlex_tokens.specs.TokenModule.{IsTokenOf}
use Rattle.lrlex_tokens.specs.TokenMap.{entries_of, token_view}
use Rattle.lrlex_tokens.specs.declared.tokens.Token.{Token as TheToken}
use Rattle.lrlex_tokens.proofs.TokenLemmas.{stands_in_view}
use Rattle.lrlex_tokens.proofs.tokens.tokens_listed.Goals as goal

abbrev name_of : {Z : Type 0} → TheToken Z → List ℕ
name_of t = string_bytes t.name

pub loop-name-preserved : goal.loop-name-preserved
loop-name-preserved g c =
    let had = c.loop-name.tokens.items in
    let token = c.in_ok-token.token in
    let entries = c.args.token_map.now.entries in
    let item : Bor (String Global) × Bor g.row.StorageT.Denot = (c.in-Some.name, c.in-Some.id) in
    let of = λ (t : TheToken g.row.A.Denot). IsTokenOf g.StorageT.Display.output (entries_of c.args.token_map.now) (token_view t) in
    let pushed : c.push.new.self.items ≡ had ++ token ∷ [] = c.in_ok-push.ensures.items in
    let name : string_bytes token.name ≡ string_bytes c.in-Some.name.now = c.in_ok-token.ensures.name ∙ c.deref.ensures in
    let names : map name_of c.push.new.self.items ≡ map (λ e. string_bytes e.0.now) (c.loop-name.yielded ++ item ∷ []) =
    ap (map name_of) pushed ∙ map-append name_of had (token ∷ [])
    ∙ ap (λ l. l ++ string_bytes token.name ∷ []) c.loop-name.invariant.0
    ∙ ap (λ n. map (λ e. string_bytes e.0.now) c.loop-name.yielded ++ n ∷ []) name
    ∙ sym (map-append (λ e. string_bytes e.0.now) c.loop-name.yielded (item ∷ [])) in
    let all : entries ≡ map deref_pair c.loop-name.yielded ++ deref_pair item ∷ c.next.new.self =
    sym c.into_iter-name-iterator.ensures.into_iter_gives.0 ∙ rest_so_far deref_pair c.loop-name.yielded c.into_iter-name-iterator.result c.loop-name.name-iterator c.loop-name.yielded_by
    ∙ ap (λ l. map deref_pair c.loop-name.yielded ++ l) (rest_more deref_pair c.loop-name.name-iterator c.next.new.self c.next.result item c.in-Some.is c.next.ensures.steps) in
    let stands : Contains (entries_of c.args.token_map.now) (string_bytes token.name, c.in-Some.id.now) =
    subst (λ n. Contains (entries_of c.args.token_map.now) (n, c.in-Some.id.now)) (sym name) (stands_in_view (λ e. (string_bytes e.0, e.1)) entries (map deref_pair c.loop-name.yielded) (deref_pair item) c.next.new.self all) in
    (names, subst (All of) (sym pushed) (All-push of had token c.loop-name.invariant.1 (c.in-Some.id.now, stands, c.in_ok-token.ensures.id, c.in_ok-token.ensures.shown ∙ sym c.in_ok-token.ensures.name)))

pub returns-clause-names : goal.returns-clause-names
returns-clause-names g c =
    let e : map deref_pair c.loop-name.yielded ≡ c.args.token_map.now.entries = search (rules, iter_end) in
    c.loop-name.invariant.0 ∙ sym (map-map (λ p. string_bytes p.0) deref_pair c.loop-name.yielded) ∙ ap (map (λ p. string_bytes p.0)) e
