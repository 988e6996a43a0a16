use Rattle.std.proofs.Common.{refl, sym, ap, ◌∙◌}
use Rattle.std.proofs.lemmas.Option.{slice_get_read}
use Rattle.regex_hir.specs.Text.{is_some_and}
use Rattle.lrlex_rules.specs.Ids.{gives}
use Rattle.lrlex_rules.specs.RuleParts.{as_rule}
use Rattle.lrlex_rules.proofs.NameLemmas.{found_alone}
use Rattle.lrlex_rules.proofs.names.rule_at.Goals as goal

pub returns-then-gives-clause-here : goal.returns-then-gives-clause-here
returns-then-gives-clause-here g c =
    let found = c.in_ok-rule.ensures.lookup in
    let read = slice_get_read c.args.rules.now _ c.args.place c.in_ok-rule.rule.now refl found.3.0 found.1 in
    sym (ap (λ o. is_some_and o (λ r. gives (g.S.Numbered.number c.args.id) (as_rule g.S.Numbered.number r))) read ∙ sym c.gives.ensures ∙ c.if-gives.true)

pub returns-else-gives-clause-here : goal.returns-else-gives-clause-here
returns-else-gives-clause-here g c =
    let found = c.in_ok-rule.ensures.lookup in
    let read = slice_get_read c.args.rules.now _ c.args.place c.in_ok-rule.rule.now refl found.3.0 found.1 in
    sym (ap (λ o. is_some_and o (λ r. gives (g.S.Numbered.number c.args.id) (as_rule g.S.Numbered.number r))) read ∙ sym c.gives.ensures ∙ c.if-gives.false)

pub returns-then-gives-clause-first : goal.returns-then-gives-clause-first
returns-then-gives-clause-first g c =
    let rules = c.args.rules.now in
    let rule = c.in_ok-rule.rule.now in
    let found = c.in_ok-rule.ensures.lookup in
    let read = slice_get_read rules _ c.args.place rule refl found.3.0 found.1 in
    found_alone g.S.Numbered.number rules (g.S.Numbered.number c.args.id) c.args.place rule _ g.met.S.Numbered.same_law c.requires read c.gives.ensures c.if-gives.true
