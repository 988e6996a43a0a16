use Rattle.std.proofs.Common.{◌≡◌, List, ℕ, map, sym, ◌∙◌, subst}
use Rattle.std.specs.List.Sorted.{IsPermutation}
use Rattle.std.specs.Ordering.{is_lt, nat_cmp}
use Rattle.std.specs.Cmp.Lexicographic.{slice_cmp}
use Rattle.std.specs.String.{string_bytes}
use Rattle.std.proofs.lemmas.List.Elements.{All-map}
use Rattle.std.proofs.lemmas.List.Sorted.{All-permutation, IsPermutation-map}
use Rattle.std.proofs.lemmas.Simd.{map-map}
use Rattle.lrlex_tokens.specs.TokenModule.{Token, IsTokenOf}
use Rattle.lrlex_tokens.specs.TokenMap.{entries_of, token_view}
use Rattle.lrlex_tokens.specs.declared.tokens.Token.{Token as TheToken}
use Rattle.lrlex_tokens.proofs.TokenLemmas.{sorted_map}
use Rattle.lrlex_tokens.proofs.tokens.tokens_of.Goals as goal

abbrev name_of : {Z : Type 0} → TheToken Z → List ℕ
name_of t = string_bytes t.name

pub returns : goal.returns
returns g c =
    let listed = c.in_ok-tokens.tokens.items in
    let sorted = c.sort_tokens.new.tokens.items in
    let of = IsTokenOf g.StorageT.Display.output (entries_of c.args.token_map.now) in
    let names : map name_of listed ≡ map (λ e. e.0) (entries_of c.args.token_map.now) = c.in_ok-tokens.ensures.names ∙ sym (map-map (λ e. e.0) (λ e. (string_bytes e.0, e.1)) c.args.token_map.now.entries) in
    let viewed : map name_of sorted ≡ map (λ t. t.name) (map token_view sorted) = sym (map-map (λ t. t.name) token_view sorted) in
    record {
      each = All-map of token_view sorted (All-permutation (λ t. of (token_view t)) listed sorted c.sort_tokens.ensures.permutation c.in_ok-tokens.ensures.each);
      once = subst (λ l. IsPermutation l (map (λ t. t.name) (map token_view sorted))) names (subst (IsPermutation (map name_of listed)) viewed (IsPermutation-map name_of listed sorted c.sort_tokens.ensures.permutation));
      in_order = sorted_map token_view (λ (x y : Token). is_lt (slice_cmp nat_cmp x.name y.name)) sorted c.sort_tokens.ensures.sorted;
    }
