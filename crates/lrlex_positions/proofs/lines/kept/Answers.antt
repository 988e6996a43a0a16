use Rattle.std.proofs.Common.{◌≡◌, inl, inr, ◌+◌, ◌<◌, ◌≤◌, ◌++◌, ℕ, true, false, length, take, drop, get_or, sym, ◌∙◌, ap, subst, arith}
use Rattle.std.specs.Str.{IsCharBoundary}
use Rattle.std.proofs.lemmas.Bool.{cases_lt}
use Rattle.std.proofs.lemmas.Str.{IsCharBoundary-start, IsCharBoundary-after_ascii}
use Rattle.lrlex_base.specs.Places.{AreBreaksOf}
use Rattle.lrlex_positions.specs.Lines.{is_lone_return, with_newlines}
use Rattle.lrlex_positions.proofs.LineLemmas.{fed_on, fed_all, fed_newline, lone_is}
use Rattle.lrlex_positions.proofs.lines.kept.Goals as goal
use Rattle.lrlex_positions.proofs.lines.kept.Goals.{then-is_lone_return+in_ok-feed+in_ok-feed-2, else-is_lone_return}

pub loop-at-init : goal.loop-at-init
loop-at-init c = (omega arith, IsCharBoundary-start c.args.text.now c.utf8.text, (c.new-lines.ensures.fed, c.new-lines.ensures.newlines), λ i h l. absurd (omega (arith, l)))

pub loop-at-preserved : goal.loop-at-preserved
loop-at-preserved c =
    let text = c.args.text.now in
    let lines = with_newlines text in
    let fed = c.loop-at.fed in
    let at = c.loop-at.at in
    let known = c.loop-at.invariant in
    let same = c.as_bytes-bytes.ensures.value in
    let in_text : at < length text = omega (arith, c.loop-at-test.true, ap length same) in
    let told : c.is_lone_return.result ≡ is_lone_return (get_or text at 0) (drop (at + 1) text) =
    subst (λ t. c.is_lone_return.result ≡ is_lone_return (get_or t at 0) (drop (at + 1) t)) same c.is_lone_return.ensures in
    elim c.if-is_lone_return.branch [
      | then-is_lone_return+in_ok-feed+in_ok-feed-2 w ↦
          let lone : is_lone_return (get_or text at 0) (drop (at + 1) text) ≡ true = sym told ∙ w.if-is_lone_return.true in
          let first : AreBreaksOf (take at lines) w.feed.new.self =
          subst (λ t. AreBreaksOf t w.feed.new.self) (ap (λ p. take fed lines ++ p) w.range.ensures.value ∙ fed_on text fed at known.0 (omega (arith, in_text)) known.3) (w.in_ok-feed.ensures.pieces (take fed lines) known.2) in
          let second : AreBreaksOf (take (at + 1) lines) w.feed-then-is_lone_return.new.self =
          subst (λ t. AreBreaksOf t w.feed-then-is_lone_return.new.self) (fed_newline text at in_text lone) (w.in_ok-feed-2.ensures.pieces (take at lines) first) in
          let here = (lone_is (get_or text at 0) (drop (at + 1) text) lone).0 in (
            omega (arith, w.fed-is),
            subst (IsCharBoundary text) (sym w.fed-is) (IsCharBoundary-after_ascii text at c.utf8.text in_text (omega (arith, here))),
            subst (λ n. AreBreaksOf (take n lines) c.if-is_lone_return.lines) (sym w.fed-is) (subst (AreBreaksOf (take (at + 1) lines)) (sym w.lines-is) second),
            λ i h l. absurd (omega (arith, w.fed-is, h, l)),
          )
      | else-is_lone_return w ↦
          let not_lone : is_lone_return (get_or text at 0) (drop (at + 1) text) ≡ false = sym told ∙ w.if-is_lone_return.false in (
            omega (arith, w.fed-is, known.0),
            subst (IsCharBoundary text) (sym w.fed-is) known.1,
            subst (λ n. AreBreaksOf (take n lines) c.if-is_lone_return.lines) (sym w.fed-is) (subst (AreBreaksOf (take fed lines)) (sym w.lines-is) known.2),
            λ i h l. elim (cases_lt i at) [
              | inl m ↦ known.3 i (omega (arith, w.fed-is, h)) m
              | inr m ↦ let here : at ≡ i = omega (arith, l, m) in subst (λ n. is_lone_return (get_or text n 0) (drop (n + 1) text) ≡ false) here not_lone
            ],
          )
    ]

pub returns : goal.returns
returns c =
    let text = c.args.text.now in
    let fed = c.loop-at.fed in
    let known = c.loop-at.invariant in
    let ended : (i : ℕ) → fed ≤ i → i < length text → is_lone_return (get_or text i 0) (drop (i + 1) text) ≡ false =
    λ i h l. known.3 i h (omega (arith, l, c.loop-at-test.false, ap length c.as_bytes-bytes.ensures.value)) in
    subst (λ t. AreBreaksOf t c.feed-2.new.self) (ap (λ p. take fed (with_newlines text) ++ p) c.range_from.ensures.value ∙ fed_all text fed known.1.0 ended)
    (c.in_ok-feed-3.ensures.pieces (take fed (with_newlines text)) known.2)
