use Rattle.std.proofs.Common.{[], ◌∷◌, ◌++◌, map, take, sym, ap, ◌∙◌, arith}
use Rattle.std.proofs.lemmas.Bool.{cond-true, cond-false}
use Rattle.std.proofs.lemmas.List.{append-nil}
use Rattle.lrlex_rules.specs.Active.{is_active, active_places}
use Rattle.lrlex_rules.specs.RuleParts.{as_rule, as_state}
use Rattle.lrlex_rules.proofs.PlaceLemmas.{places_more, active_where}
use Rattle.lrlex_rules.proofs.active.active_places.Goals as goal
use Rattle.lrlex_rules.proofs.active.active_places.Goals.{then-is_active_where+in_ok-push, else-is_active_where}

pub rules-preserved : goal.rules-preserved
rules-preserved g c =
    let states = map as_state c.args.states.now in
    let r = c.index-rules-index.result in
    let more = places_more (is_active states c.args.id) (as_rule (λ s. 0)) c.args.rules.now c.rules.index r (omega arith) c.index-rules-index.is in
    let known = active_where states c.args.id c.is_inclusive-inclusive.result (as_rule (λ s. 0) r) c.is_inclusive-inclusive.ensures in
    elim c.if-is_active_where.branch [
      | then-is_active_where+in_ok-push w ↦
          ap (λ v. v.items) w.places-is ∙ w.in_ok-push.ensures.items ∙ ap (λ xs. xs ++ c.rules.index ∷ []) c.rules.invariant
          ∙ sym (more ∙ ap (λ xs. active_places states (map (as_rule (λ s. 0)) (take c.rules.index c.args.rules.now)) c.args.id ++ xs) (cond-true _ (c.rules.index ∷ []) [] (sym (w.if-is_active_where.ensures ∙ known))))
      | else-is_active_where w ↦
          ap (λ v. v.items) w.places-is ∙ c.rules.invariant ∙ sym (append-nil _)
          ∙ sym (more ∙ ap (λ xs. active_places states (map (as_rule (λ s. 0)) (take c.rules.index c.args.rules.now)) c.args.id ++ xs) (cond-false _ (c.rules.index ∷ []) [] (sym (w.if-is_active_where.ensures ∙ known))))
    ]
