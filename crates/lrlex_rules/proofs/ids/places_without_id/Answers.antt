use Rattle.std.proofs.Common.{◌||◌, ◌&&◌, not, map, take, sym, ap, ◌∙◌, arith, is_some, option_map}
use Rattle.std.proofs.Math.Bool.{or-false}
use Rattle.std.proofs.lemmas.List.{take_all}
use Rattle.std.specs.List.{list_any}
use Rattle.std.specs.Str.{bytes_eq}
use Rattle.std.specs.HashSet.{contains_by}
use Rattle.lrlex_base.specs.Spans.{as_span, same_span}
use Rattle.lrlex_rules.specs.RuleParts.{as_rule}
use Rattle.lrlex_rules.specs.Ids.{is_named_at, ids_of, is_unused_at, is_key_at}
use Rattle.lrlex_rules.proofs.IdLemmas.{inserted, named_more, named, unnamed, key_eq, same_key, and_left, with_name, without_name, has_name, holds_places}
use Rattle.lrlex_rules.proofs.ids.places_without_id.Goals as goal
use Rattle.lrlex_rules.proofs.ids.places_without_id.Goals.{in-Some+then-not-contains_key+in_ok-from_str+in_ok-insert, in-Some+else-not-contains_key, in_default}

pub loop-rule-preserved : goal.loop-rule-preserved
loop-rule-preserved g c = λ name place.
    let number = g.S.Numbered.number in
    let r = as_rule number c.rule-item.result in
    let before = list_any (is_named_at name place) (map (as_rule number) (take c.loop-rule.rule-index c.args.rules.now)) in
    let has = is_some (ids_of number c.args.ids.now name) in
    let held = contains_by (is_key_at name place) c.loop-rule.unused in
    let more = ap (λ b. b && not has) (named_more number (is_named_at name place) c.args.rules.now c.loop-rule.rule-index c.rule-item.result (omega (arith, c.loop-rule-test.true, c.loop-rule.auto.rule-index-end)) c.rule-item.is) in
    elim c.match-name.branch [
      | in-Some+then-not-contains_key+in_ok-from_str+in_ok-insert w ↦
          let own = w.in-Some.name.now in
          let text = w.in_ok-from_str.field-0 in
          let is = named name own r w.in-Some.ensures in
          ap (contains_by (is_key_at name place)) w.unused-is
          ∙ inserted key_eq (is_key_at name place) c.loop-rule.unused w.insert.new.self (text, w.name_span.result) w.in_ok-insert.field-0 (λ y e. same_key name place (text, w.name_span.result) y e) w.in_ok-insert.ensures.added w.in_ok-insert.ensures.keys
          ∙ ap (λ b. held || b)
          (ap (λ n. bytes_eq name n && same_span (as_span w.name_span.result) place) w.in_ok-from_str.ensures.ok
          ∙ ap (λ s. bytes_eq name own && same_span s place) w.name_span.ensures ∙ ap (λ b. b && same_span r.name_span place) (sym is))
          ∙ with_name before (is_named_at name place r) has held (c.loop-rule.invariant name place)
          (λ e. has_name number c.args.ids.now name own _ w.if-not-contains_key.ensures (sym is ∙ and_left _ _ e))
          ∙ sym more
      | in-Some+else-not-contains_key w ↦
          let own = w.in-Some.name.now in
          let is = named name own r w.in-Some.ensures in
          ap (contains_by (is_key_at name place)) w.unused-is
          ∙ without_name before (is_named_at name place r) has held (c.loop-rule.invariant name place)
          (λ e. has_name number c.args.ids.now name own _ w.if-not-contains_key.ensures (sym is ∙ and_left _ _ e))
          ∙ sym more
      | in_default w ↦
          ap (contains_by (is_key_at name place)) w.unused-is ∙ c.loop-rule.invariant name place
          ∙ sym (more ∙ ap (λ b. (before || (b && same_span r.name_span place)) && not has) (unnamed name r (sym (ap (option_map (λ s. s.now)) w.in_default.is) ∙ c.name.ensures)) ∙ ap (λ b. b && not has) (or-false before))
    ]

pub returns : goal.returns
returns g c =
    holds_places _ c.loop-rule.unused c.unless_empty.result c.unless_empty.ensures (λ name place.
    c.loop-rule.invariant name place
    ∙ ap (λ rs. is_unused_at (ids_of g.S.Numbered.number c.args.ids.now) (map (as_rule g.S.Numbered.number) rs) name place) (take_all c.loop-rule.rule-index c.args.rules.now (omega (arith, c.loop-rule-test.false))))
