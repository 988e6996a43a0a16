use Rattle.std.proofs.Common.{◌+◌, ◌<◌, ◌≤◌, length, get_or, drop, [], ◌∷◌, ◌++◌, sym, ap, ◌∙◌, arith}
use Rattle.std.proofs.lemmas.List.{append_assoc}
use Rattle.lrlex_rules.specs.Active.{merged}
use Rattle.lrlex_rules.proofs.MergedLemmas.{merged_from}
use Rattle.lrlex_rules.proofs.active.merged_places.Goals as goal
use Rattle.lrlex_rules.proofs.active.merged_places.Goals.{then-below-test+else-others-next, else-below-test}

pub some-preserved : goal.some-preserved
some-preserved c =
    let xs = c.args.some.now in
    let ys = c.args.others.now in
    let i = c.some.place-index in
    let j = c.below.next in
    let kept = c.below.places.items in
    let above : j < length ys → get_or xs i 0 ≤ get_or ys j 0 = λ within. elim c.below-test.branch [
      | then-below-test+else-others-next w ↦ omega arith
      | else-below-test w ↦ absurd (omega arith)
    ] in
    record {
      within = c.below.invariant.within;
      so_far = ap (λ zs. zs ++ merged (drop (i + 1) xs) (drop j ys)) c.in_ok-push-2.ensures.items
          ∙ append_assoc kept (get_or xs i 0 ∷ []) (merged (drop (i + 1) xs) (drop j ys))
          ∙ ap (λ zs. kept ++ zs) (sym (merged_from xs ys i j (omega arith) above)) ∙ c.below.invariant.so_far;
    }
