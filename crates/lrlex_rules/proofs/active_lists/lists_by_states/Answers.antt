use Rattle.std.proofs.Common.{◌≡◌, [], ◌∷◌, ◌++◌, map, get_or, sym, ap, ap₂, ◌∙◌, arith}
use Rattle.std.proofs.lemmas.List.{map_more, take_all}
use Rattle.lrlex_rules.specs.Active.{active_places}
use Rattle.lrlex_rules.specs.RuleParts.{as_rule, as_state}
use Rattle.lrlex_rules.specs.declared.states.StartState.{StartState}
use Rattle.lrlex_rules.proofs.active_lists.lists_by_states.Goals as goal

pub states-preserved : goal.states-preserved
states-preserved g c =
    let states = c.args.states.now in
    let i = c.states.index in
    let own = active_places (map as_state states) (map (as_rule (λ _. 0)) c.args.rules.now) in
    let of = λ (s : StartState). own (as_state s).id in
    let s = c.index-states-index.result in
    let here : c.in_ok-places.places.items ≡ of (get_or states i s) = c.in_ok-places.ensures ∙ ap own c.id.ensures ∙ ap of c.index-states-index.is in
    record {
      listed = c.in_ok-add_list.ensures.added ∙ ap₂ (λ xs x. xs ++ x ∷ []) c.states.invariant.listed here ∙ sym (map_more of states i s (omega arith));
      within = c.in_ok-add_list.ensures.within;
    }

pub returns-clause-listed : goal.returns-clause-listed
returns-clause-listed g c =
    let states = c.args.states.now in
    let of = λ (s : StartState). active_places (map as_state states) (map (as_rule (λ _. 0)) c.args.rules.now) (as_state s).id in
    c.states.invariant.listed ∙ ap (map of) (take_all c.states.index states (omega (arith, c.states-test.false)))
