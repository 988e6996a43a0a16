-- Past the last rule there is no warning.
use Rattle.std.proofs.Common.{List, Option, ◌≡◌, ◌++◌, ◌∙◌, None, Some, append-nil, ap, length, map, option_map, refl, slice_get, subst, sym, arith}
use Rattle.std.specs.Prelude.{OnOk}
use Rattle.std.proofs.lemmas.Bool.{ltb-true}
use Rattle.std.proofs.lemmas.Option.{slice_get_past, slice_get_read}
use Rattle.lrlex_rules.specs.Definition.{Rule}
use Rattle.lrlex_rules.specs.RuleParts.{as_rule}
use Rattle.lrlex_rules.specs.declared.states.StartState.{StartState}
use Rattle.lrlex_report.specs.Warnings.{as_answered, as_told, known_of, warnings_if}
use Rattle.lrlex_report.specs.declared.warnings.answers.Facts.{Facts}
use Rattle.lrlex_report.proofs.warnings.push_place.Goals as goal

pub returns-in-None-clause-told : goal.returns-in-None-clause-told
returns-in-None-clause-told g c =
    let t = c.args.table.now in
    let none : slice_get t.rules.items c.args.place ≡ None = slice_get_past t.rules.items c.args.place (omega (arith, c.in-None.ensures.lookup, ap length c.deref.ensures.value)) in
    let told = map as_told c.args.told.now.items in
    sym (append-nil told) ∙ ap (λ o. told ++ warnings_if (known_of (as_answered c.args.answers.now) c.args.place) t.start_states.items c.args.rules.now (option_map (as_rule g.S.Numbered.number) o)) (sym none)

pub returns-in-Some-clause-told : goal.returns-in-Some-clause-told
returns-in-Some-clause-told g c =
    let t = c.args.table.now in
    let rules = c.deref.result.now in
    let rule = c.in-Some.rule.now in
    let number = g.S.Numbered.number in
    let read = slice_get_read rules (length rules) c.args.place rule refl (ltb-true _ _ (sym c.in-Some.ensures.lookup.0)) c.in-Some.ensures.lookup.1 in
    let has : slice_get t.rules.items c.args.place ≡ Some rule = ap (λ xs. slice_get xs c.args.place) (sym c.deref.ensures.value) ∙ read in
    let Told : Facts → List StartState → Option Rule → Type 0 = λ known states o. OnOk c.push_rule.result (map as_told c.push_rule.new.told.items ≡ map as_told c.args.told.now.items ++ warnings_if known states c.args.rules.now o) in
    let known = known_of (as_answered c.args.answers.now) c.args.place in
    subst (λ o. Told known t.start_states.items (option_map (as_rule number) o)) (sym has)
    (subst (λ states. Told known states (Some (as_rule number rule))) c.as_slice-states.ensures.value (subst (λ k. Told k c.as_slice-states.result.now (Some (as_rule number rule))) c.at.ensures c.push_rule.ensures.told))

pub returns-in-Some-clause-fit : goal.returns-in-Some-clause-fit
returns-in-Some-clause-fit g c = c.push_rule.ensures.fit
