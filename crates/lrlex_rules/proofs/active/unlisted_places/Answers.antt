use Rattle.std.proofs.Common.{[], ◌∷◌, ◌++◌, map, take, sym, ap, ◌∙◌, arith}
use Rattle.std.proofs.lemmas.Bool.{cond-true, cond-false}
use Rattle.std.proofs.lemmas.List.{append-nil}
use Rattle.lrlex_rules.specs.Active.{lists_none, places_from}
use Rattle.lrlex_rules.specs.RuleParts.{as_rule}
use Rattle.lrlex_rules.proofs.PlaceLemmas.{places_more}
use Rattle.lrlex_rules.proofs.active.unlisted_places.Goals as goal
use Rattle.lrlex_rules.proofs.active.unlisted_places.Goals.{then-lists_none+in_ok-push, else-lists_none}

pub rules-preserved : goal.rules-preserved
rules-preserved g c =
    let i = c.rules.index in
    let so_far = places_from lists_none 0 (map (as_rule (λ _. 0)) (take i c.args.rules.now)) in
    let more = places_more lists_none (as_rule (λ _. 0)) c.args.rules.now i c.index-rules-index.result (omega arith) c.index-rules-index.is in
    elim c.if-lists_none.branch [
      | then-lists_none+in_ok-push w ↦
          ap (λ v. v.items) w.places-is ∙ w.in_ok-push.ensures.items ∙ ap (λ xs. xs ++ i ∷ []) c.rules.invariant
          ∙ sym (more ∙ ap (λ xs. so_far ++ xs) (cond-true _ (i ∷ []) [] (sym w.if-lists_none.ensures)))
      | else-lists_none w ↦
          ap (λ v. v.items) w.places-is ∙ c.rules.invariant ∙ sym (append-nil _)
          ∙ sym (more ∙ ap (λ xs. so_far ++ xs) (cond-false _ (i ∷ []) [] (sym w.if-lists_none.ensures)))
    ]
