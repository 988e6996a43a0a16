use Rattle.std.proofs.Common.{◌≡◌, ◌<◌, map, set, get_or, length, sym, ap, ◌∙◌, arith}
use Rattle.std.proofs.lemmas.List.{length-map, map-set, get_or-map}
use Rattle.std.proofs.lemmas.List.Edits.{map_over_more}
use Rattle.lrlex_rules.specs.RuleParts.{as_rule}
use Rattle.lrlex_rules.specs.Ids.{ids_of, with_own_id}
use Rattle.lrlex_rules.proofs.ids.take_ids.Goals as goal

pub loop-rule-preserved : goal.loop-rule-preserved
loop-rule-preserved g c =
    let view = as_rule g.S.Numbered.number in
    let now = c.loop-rule.rules in
    let i = c.loop-rule.rule-index in
    let r = get_or now i c.rule-item.result in
    let views = map view c.args.rules.now in
    let within : i < length views = omega (arith, c.loop-rule-test.true, length-map c.args.rules.now view) in
    let given : view c.set_tok_id.new.self ≡ with_own_id (ids_of g.S.Numbered.number c.args.ids.now) (view r) =
    ap view c.set_tok_id.ensures ∙ ap (λ id. record (view r) { id = id }) c.own_id-id.ensures in
    map-set view now i c.set_tok_id.new.self ∙ ap (set (map view now) i) given
    ∙ map_over_more (with_own_id (ids_of g.S.Numbered.number c.args.ids.now)) views (map view now) i (view r) within c.loop-rule.invariant
    (sym (get_or-map view now i c.rule-item.result (view r) (omega (arith, c.loop-rule-test.true, c.loop-rule.auto.rules))))
