use Rattle.std.proofs.Common.{◌≡◌, ◌≤◌, ◌++◌, ◌+◌, ◌-◌, ℕ, List, take, drop, true, false, refl, sym, ◌∙◌, ap, subst, arith}
use Rattle.std.specs.Str.{IsCharBoundary}
use Rattle.std.proofs.lemmas.List.{drop-take, take-append-drop, take-take}
use Rattle.std.proofs.lemmas.Str.{IsCharBoundary-start}
use Rattle.lrlex_base.specs.Places.{Breaks, AreBreaksOf}
use Rattle.lrlex_base_tests.proofs.places.fed_by_characters.Goals as goal
use Rattle.lrlex_base_tests.proofs.places.fed_by_characters.Goals.{then-is_char_boundary+in_ok-feed, else-is_char_boundary}

-- a front and what stands behind it are a longer front
joined : (text : List ℕ) (from next : ℕ) → from ≤ next → take from text ++ take (next - from) (drop from text) ≡ take next text
joined text from next h =
    let whole : from + (next - from) ≡ next = omega arith in
    ap (λ l. take from text ++ l) (sym (drop-take from (next - from) text) ∙ ap (λ n. drop from (take n text)) whole)
    ∙ ap (λ l. l ++ drop from (take next text)) (sym (take-take from next text h))
    ∙ take-append-drop from (take next text)

pub loop-at-init : goal.loop-at-init
loop-at-init c = record {
  in_order = omega arith;
  front = IsCharBoundary-start c.args.text.now c.utf8.text;
  reached = λ _. refl;
  fed = (c.new-cache.ensures.fed, c.new-cache.ensures.newlines);
}

pub loop-at-preserved : goal.loop-at-preserved
loop-at-preserved c =
    let text = c.args.text.now in
    let from = c.loop-at.from in
    let next = c.loop-at.at + 1 in
    elim c.if-is_char_boundary.branch [
      | then-is_char_boundary+in_ok-feed w ↦
          let here : IsCharBoundary text next = c.is_char_boundary.ensures.test.0 w.if-is_char_boundary.true in
          let front : take from text ++ w.range.result.now ≡ take next text =
          ap (λ l. take from text ++ l) w.range.ensures.value ∙ joined text from next (omega (arith, c.loop-at.invariant.in_order)) in
          let fed : AreBreaksOf (take next text) w.feed.new.self =
          subst (λ l. AreBreaksOf l w.feed.new.self) front (w.in_ok-feed.ensures.pieces (take from text) c.loop-at.invariant.fed) in
          record {
            in_order = omega arith;
            front = subst (IsCharBoundary text) (sym w.from-is) here;
            reached = λ _. w.from-is;
            fed = subst (λ (b : Breaks). AreBreaksOf (take c.if-is_char_boundary.from text) b) (sym w.cache-is) (subst (λ n. AreBreaksOf (take n text) w.feed.new.self) (sym w.from-is) fed);
          }
      | else-is_char_boundary w ↦ record {
        in_order = omega (arith, c.loop-at.invariant.in_order);
        front = subst (IsCharBoundary text) (sym w.from-is) c.loop-at.invariant.front;
        reached = λ here. let wrong : true ≡ false = sym (c.is_char_boundary.ensures.test.1 here) ∙ w.if-is_char_boundary.false in cc;
        fed = subst (λ (b : Breaks). AreBreaksOf (take c.if-is_char_boundary.from text) b) (sym w.cache-is) (subst (λ n. AreBreaksOf (take n text) c.loop-at.cache) (sym w.from-is) c.loop-at.invariant.fed);
      }
    ]
