use Rattle.std.proofs.Common.{◌≡◌, ◌++◌, ℕ, ◌+◌, List, map, get_or, take, codes, sym, ◌∙◌, ap, subst, arith, append_assoc}
use Rattle.std.proofs.lemmas.List.{append-nil}
use Rattle.std.specs.List.{join_by}
use Rattle.std.specs.String.{string_bytes}
use Rattle.lrlex_tokens.specs.TokenModule.{Token}
use Rattle.lrlex_tokens.specs.TokenMap.{token_view}
use Rattle.lrlex_tokens.proofs.TokenLemmas.{join_by_first, join_by_more}
use Rattle.lrlex_tokens.proofs.token_text.push_ids.Goals as goal
use Rattle.lrlex_tokens.proofs.token_text.push_ids.Goals.{then-i-gt0+in_ok-push_str, else-i-gt0}

id_of : Token → List ℕ
id_of t = t.id

regroup : (a b c d : List ℕ) → ((a ++ b) ++ c) ++ d ≡ a ++ (b ++ (c ++ d))
regroup a b c d = simp append_assoc

pub loop-i-preserved : goal.loop-i-preserved
loop-i-preserved g c =
    let before = string_bytes c.args.text.now in
    let tokens = c.args.tokens.now in
    let id = string_bytes c.index-tokens-i.result.id in
    let joined = λ (n : ℕ). join_by (λ (t : Token). t.id) (codes ", ") (map token_view (take n tokens)) in
    let added : string_bytes c.push_str-in-loop-i.new.self ≡ string_bytes c.if-i-gt0.text ++ id =
    c.in_ok-push_str-2.ensures.bytes ∙ ap (λ l. string_bytes c.if-i-gt0.text ++ l) c.deref.ensures in
    elim c.if-i-gt0.branch [
      | then-i-gt0+in_ok-push_str w ↦
          let more : joined (c.loop-i.i + 1) ≡ joined c.loop-i.i ++ (codes ", " ++ id) =
          join_by_more (λ (t : Token). t.id) (codes ", ") token_view tokens c.loop-i.i c.index-tokens-i.result w.if-i-gt0.true c.loop-i-test.true c.index-tokens-i.is in
          added ∙ ap (λ t. string_bytes t ++ id) w.text-is
          ∙ ap (λ l. l ++ id) (w.in_ok-push_str.ensures.bytes ∙ ap (λ l. l ++ codes ", ") c.loop-i.invariant)
          ∙ regroup before (joined c.loop-i.i) (codes ", ") id ∙ ap (λ l. before ++ l) (sym more)
      | else-i-gt0 w ↦
          let none : c.loop-i.i ≡ 0 = omega arith in
          let is_first = subst (λ n. c.index-tokens-i.result ≡ get_or tokens n c.index-tokens-i.result) none c.index-tokens-i.is in
          let first : joined 1 ≡ id = join_by_first (λ (t : Token). t.id) (codes ", ") token_view tokens c.index-tokens-i.result (omega arith) is_first in
          added ∙ ap (λ t. string_bytes t ++ id) w.text-is
          ∙ ap (λ l. l ++ id) (c.loop-i.invariant ∙ ap (λ n. before ++ joined n) none ∙ append-nil before)
          ∙ ap (λ l. before ++ l) (sym (ap (λ n. joined (n + 1)) none ∙ first))
    ]
