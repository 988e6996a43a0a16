use Rattle.std.proofs.Common.{◌≡◌, ◌∷◌, ◌++◌, [], not, cond, map, length, get_or, refl, sym, ap, ap₂, ◌∙◌, arith}
use Rattle.std.proofs.lemmas.List.{map_more, take_all}
use Rattle.std.proofs.lemmas.Option.{slice_get_read}
use Rattle.lrlex_rules.specs.Active.{active_places, lists_none, lists_state, merged, places_from}
use Rattle.lrlex_rules.specs.RuleParts.{as_rule, as_state}
use Rattle.lrlex_rules.specs.declared.states.StartState.{StartState}
use Rattle.lrlex_rules.proofs.ListLemmas.{list_in_at}
use Rattle.lrlex_rules.proofs.MergedLemmas.{places_of_state}
use Rattle.lrlex_rules.proofs.ViewLemmas.{placed_inclusive}
use Rattle.lrlex_rules.proofs.active_lists.lists_by_rules.Goals as goal

pub states-preserved : goal.states-preserved
states-preserved g c =
    let states = c.args.states.now in
    let i = c.states.index in
    let rules = map (as_rule (λ _. 0)) c.args.rules.now in
    let own = active_places (map as_state states) rules in
    let of = λ (s : StartState). own (as_state s).id in
    let s = c.index-states-index.result in
    let at = slice_get_read states (length states) i s refl c.states-test.true c.index-states-index.is in
    let b = not c.exclusive-inclusive.result in
    let inclusive = ap not c.exclusive-inclusive.ensures ∙ placed_inclusive states i s c.requires at in
    let lists = c.in_ok-listed.listed.items in
    let mine : c.deref.result.now ≡ places_from (lists_state i) 0 rules =
    c.deref.ensures.value ∙ ap (λ v. v.items) c.index.ensures
    ∙ sym (list_in_at lists i c.index.result.now (omega (arith, c.in_ok-listed.ensures.each, c.states-test.true))) ∙ c.in_ok-listed.ensures.listed i c.states-test.true in
    let others : c.deref-in-states.result.now ≡ places_from lists_none 0 rules = c.deref-in-states.ensures.value ∙ c.in_ok-unlisted.ensures in
    let here : c.in_ok-places.places.items ≡ of (get_or states i s) =
    c.in_ok-places.ensures ∙ ap₂ (λ xs ys. cond b (merged xs ys) xs) mine others ∙ places_of_state (map as_state states) i rules b inclusive
    ∙ ap own (sym (c.requires i s at)) ∙ ap of c.index-states-index.is in
    record {
      listed = c.in_ok-add_list.ensures.added ∙ ap₂ (λ xs x. xs ++ x ∷ []) c.states.invariant.listed here ∙ sym (map_more of states i s (omega arith));
      within = c.in_ok-add_list.ensures.within;
    }

pub returns-clause-listed : goal.returns-clause-listed
returns-clause-listed g c =
    let states = c.args.states.now in
    let of = λ (s : StartState). active_places (map as_state states) (map (as_rule (λ _. 0)) c.args.rules.now) (as_state s).id in
    c.states.invariant.listed ∙ ap (map of) (take_all c.states.index states (omega (arith, c.states-test.false)))
