use Rattle.std.proofs.Common.{◌≡◌, ◌+◌, ◌∙◌, ℕ, length, lit<, refl, subst, sym, ap, rules, arith}
use Rattle.std.specs.Prelude.{bytes_eq, true, false, ◌==◌}
use Rattle.std.specs.List.{position_or_len, slice_split}
use Rattle.std.specs.Str.Iter.{split_steps, split_text, split_has_more, split_pattern}
use Rattle.std.specs.Str.Pattern.{FindsChar}
use Rattle.std.proofs.lemmas.Iterator.{YieldsList}
use Rattle.std.proofs.lemmas.Iterator.Consumers.{YieldsList-turn, YieldsList-end}
use Rattle.std.proofs.lemmas.Iterator.Splits.{YieldsList-from_str_split}
use Rattle.std.proofs.lemmas.List.{at_drop_all, length_push}
use Rattle.lrlex_lsp.specs.declared.token_types.TheConstants.{TOKEN_TYPES}
use Rattle.lrlex_lsp.specs.TokenTypes.{type_names}
use Rattle.lrlex_lsp.proofs.TypeLemmas.{is_text, place_after, position_is, position_none}
use Rattle.lrlex_lsp.proofs.token_types.type_named.Goals as goal

types_are : slice_split (λ b. b == 32) TOKEN_TYPES.now ≡ type_names
unfolding type_names
types_are = refl

types_given : {s : _} → split_text s ≡ TOKEN_TYPES.now → split_has_more s ≡ true → split_pattern {P = ℕ} s ≡ 32 → YieldsList (split_steps FindsChar (λ a b. b ≡ a)) (λ x. x.now) s type_names
types_given {s} text more pattern =
    subst (λ all. YieldsList (split_steps FindsChar (λ a b. b ≡ a)) (λ x. x.now) s all) types_are (YieldsList-from_str_split 32 TOKEN_TYPES.now (lit< tt) text more pattern)

few : length type_names ≡ 23
unfolding type_names
few = refl

pub returns-then-eq : goal.returns-then-eq
returns-then-eq c =
    let turn = YieldsList-turn (types_given (search rules) (search rules) (search rules)) c.loop-known.yielded _ c.loop-known.yielded_by _ _ c.in-Some.known c.in-Some.is c.next.ensures.steps in
    let count = c.loop-known.invariant.count in
    let here = rw (← count) at turn in
    let test : bytes_eq c.in-Some.known.now c.args.name.now ≡ true = search rules in
    let place = rw test at (place_after c.args.name.now type_names c.loop-known.number c.in-Some.known.now here) in
    position_is c.args.name.now type_names c.loop-known.number (omega (arith, place, c.loop-known.invariant.place)) here.0

pub loop-known-preserved : goal.loop-known-preserved
loop-known-preserved c =
    let turn = YieldsList-turn (types_given (search rules) (search rules) (search rules)) c.loop-known.yielded _ c.loop-known.yielded_by _ _ c.in-Some.known c.in-Some.is c.next.ensures.steps in
    let count = c.loop-known.invariant.count in
    let here = rw (← count) at turn in
    let test : bytes_eq c.in-Some.known.now c.args.name.now ≡ false = search rules in
    let place = rw test at (place_after c.args.name.now type_names c.loop-known.number c.in-Some.known.now here) in
    let next : c.saturating_add-number.result ≡ c.loop-known.number + 1 = omega (arith, c.saturating_add-number.ensures, here.0, few) in
    record {
      count = next ∙ ap (λ n. n + 1) count ∙ sym (length_push c.loop-known.yielded c.in-Some.known);
      place = rw next (omega (arith, place, c.loop-known.invariant.place));
    }

pub returns : goal.returns
returns c =
    let end = YieldsList-end (types_given (search rules) (search rules) (search rules)) c.loop-known.yielded _ c.loop-known.yielded_by _ _ c.in-None.is c.next.ensures.steps in
    let past = at_drop_all (position_or_len (is_text c.args.name.now)) type_names c.loop-known.number (omega (arith, c.loop-known.invariant.count, end.1)) in
    position_none c.args.name.now type_names (omega (arith, past, c.loop-known.invariant.place, c.loop-known.invariant.count, end.1))
