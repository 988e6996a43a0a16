use Rattle.std.proofs.Common.{Bool, ◌≡◌, ◌++◌, ◌∷◌, [], ap, ap₂, ◌∙◌, map, subst}
use Rattle.std.specs.Prelude.{OnOk}
use Rattle.lrlex_base.specs.Spans.{Span, as_span}
use Rattle.lrlex_definition.specs.RuleTable.{definition_by}
use Rattle.lrlex_report.specs.Warnings.{as_told, is_never_entered, has_no_rules, near_span, those_that_hold}
use Rattle.lrlex_report.specs.declared.warnings.kinds.WarningKind.TheVariants.{NeverEntered, NoRules}
use Rattle.lrlex_report.proofs.warnings.states.push_state.Goals as goal

pub returns-clause-told : goal.returns-clause-told
returns-clause-told g c =
    let number = g.S.Numbered.number in
    let table = c.args.table.now in
    let never : c.is_never_entered.result ≡ is_never_entered number table.rules.items c.args.state.now.id = c.is_never_entered.ensures ∙ ap₂ (λ rules id. is_never_entered number rules id) c.as_slice.ensures.value c.id-id.ensures in
    let none : c.has_no_rules.result ≡ has_no_rules (definition_by number table) c.args.state.now.id = c.has_no_rules.ensures ∙ ap (λ id. has_no_rules (definition_by number table) id) c.id-id.ensures in
    let near : as_span c.near_span.result ≡ near_span c.args.rules.now (as_span c.args.state.now.name_span) = c.near_span.ensures.value ∙ ap (near_span c.args.rules.now) c.name_span.ensures in
    let Told : Span → Bool → Bool → Type 0 = λ span a b. OnOk c.push_all.result (map as_told c.push_all.new.told.items ≡ map as_told c.args.told.now.items ++ those_that_hold span ((NeverEntered, a) ∷ (NoRules, b) ∷ [])) in
    subst (λ b. Told (near_span c.args.rules.now (as_span c.args.state.now.name_span)) (is_never_entered number table.rules.items c.args.state.now.id) b) none (subst (λ a. Told (near_span c.args.rules.now (as_span c.args.state.now.name_span)) a c.has_no_rules.result) never (subst (λ span. Told span c.is_never_entered.result c.has_no_rules.result) near c.push_all.ensures.told))

pub returns-clause-fit : goal.returns-clause-fit
returns-clause-fit g c was = c.push_all.ensures.fit c.args.rules.now c.near_span.ensures.fits was
