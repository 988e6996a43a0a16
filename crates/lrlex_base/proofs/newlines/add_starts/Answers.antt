use Rattle.std.proofs.Common.{◌≡◌, ◌<◌, ◌+◌, ◌++◌, ◌∷◌, [], get_or, take, length, sym, ◌∙◌, ap, subst, arith, append_assoc}
use Rattle.lrlex_base.specs.Places.{newlines_from, starts_after, is_newline}
use Rattle.std.proofs.lemmas.Grind.{common_steps}
use Rattle.std.proofs.lemmas.Bool.{ne_eqb}
use Rattle.lrlex_base.proofs.NewlineLemmas.{starts_more_yes, starts_more_no, no_newline_at}
use Rattle.lrlex_base.proofs.newlines.add_starts.Goals as goal
use Rattle.lrlex_base.proofs.newlines.add_starts.Goals.{then-b-eq10+else-is_err, else-b-eq10}

pub returns-then-is_err-clause-no_newline : goal.returns-then-is_err-clause-no_newline
returns-then-is_err-clause-no_newline g c none =
    let same : c.as_bytes-b-items.result.now ≡ c.args.piece.now = c.as_bytes-b-items.ensures.value in
    let below : c.loop-i.i < length c.args.piece.now = subst (λ l. c.loop-i.i < length l) same c.loop-i-test.true in
    let here : get_or c.args.piece.now c.loop-i.i 0 ≡ 10 = subst (λ l. get_or l c.loop-i.i 0 ≡ 10) same c.if-b-eq10.true in
    absurd (no_newline_at c.args.at c.args.piece.now c.loop-i.i none below (ap is_newline here))

pub loop-i-preserved : goal.loop-i-preserved
loop-i-preserved g c =
    let i = c.loop-i.i in
    let piece = c.args.piece.now in
    let same : c.as_bytes-b-items.result.now ≡ piece = c.as_bytes-b-items.ensures.value in
    let below : i < length piece = subst (λ l. i < length l) same c.loop-i-test.true in
    elim c.if-b-eq10.branch [
      | then-b-eq10+else-is_err w ↦
          let here : get_or piece i 0 ≡ 10 = subst (λ l. get_or l i 0 ≡ 10) same w.if-b-eq10.true in
          let pushed : c.if-b-eq10.starts.items ≡ c.loop-i.starts.items ++ (c.args.at + i + 1) ∷ [] = grind (arith, common_steps) in
          pushed ∙ ap (λ l. l ++ (c.args.at + i + 1) ∷ []) c.loop-i.invariant ∙ append_assoc c.args.starts.now.items (starts_after (newlines_from c.args.at (take i piece))) ((c.args.at + i + 1) ∷ [])
          ∙ ap (λ l. c.args.starts.now.items ++ l) (sym (starts_more_yes c.args.at piece i below (ap is_newline here)))
      | else-b-eq10 w ↦
          let here : get_or piece i 0 ≡ 10 → ⊥ = λ e. w.if-b-eq10.false (subst (λ l. get_or l i 0 ≡ 10) (sym same) e) in
          ap (λ v. v.items) w.starts-is ∙ c.loop-i.invariant
          ∙ ap (λ l. c.args.starts.now.items ++ l) (sym (starts_more_no c.args.at piece i below (ne_eqb _ _ here)))
    ]
