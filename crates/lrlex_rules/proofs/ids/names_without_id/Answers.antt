use Rattle.std.proofs.Common.{◌||◌, ◌&&◌, not, map, take, sym, ap, ◌∙◌, arith, is_some, string_bytes, option_map}
use Rattle.std.proofs.Math.Bool.{or-false}
use Rattle.std.proofs.lemmas.List.{take_all}
use Rattle.std.specs.List.{list_any}
use Rattle.std.specs.Str.{bytes_eq}
use Rattle.std.specs.String.{string_eq}
use Rattle.std.specs.HashSet.{contains_text}
use Rattle.lrlex_rules.specs.RuleParts.{as_rule}
use Rattle.lrlex_rules.specs.Ids.{is_named, ids_of, is_unused}
use Rattle.lrlex_rules.proofs.IdLemmas.{inserted, named_more, named, unnamed, same_name, with_name, without_name, has_name, holds_texts}
use Rattle.lrlex_rules.proofs.ids.names_without_id.Goals as goal
use Rattle.lrlex_rules.proofs.ids.names_without_id.Goals.{in-Some+then-not-contains_key+in_ok-from_str+in_ok-insert, in-Some+else-not-contains_key, in_default}

pub loop-rule-preserved : goal.loop-rule-preserved
loop-rule-preserved g c = λ name.
    let number = g.S.Numbered.number in
    let r = as_rule number c.rule-item.result in
    let before = list_any (is_named name) (map (as_rule number) (take c.loop-rule.rule-index c.args.rules.now)) in
    let has = is_some (ids_of number c.args.ids.now name) in
    let more = ap (λ b. b && not has) (named_more number (is_named name) c.args.rules.now c.loop-rule.rule-index c.rule-item.result (omega (arith, c.loop-rule-test.true, c.loop-rule.auto.rule-index-end)) c.rule-item.is) in
    elim c.match-name.branch [
      | in-Some+then-not-contains_key+in_ok-from_str+in_ok-insert w ↦
          let own = w.in-Some.name.now in
          let key = w.in_ok-from_str.field-0 in
          let is = named name own r w.in-Some.ensures in
          ap (λ s. contains_text s name) w.unused-is
          ∙ inserted string_eq (λ k. bytes_eq name (string_bytes k)) c.loop-rule.unused w.insert.new.self key w.in_ok-insert.field-0 (λ y e. same_name name (string_bytes key) (string_bytes y) e) w.in_ok-insert.ensures.added w.in_ok-insert.ensures.keys
          ∙ ap (λ b. contains_text c.loop-rule.unused name || b) (ap (bytes_eq name) w.in_ok-from_str.ensures.ok ∙ sym is)
          ∙ with_name before (is_named name r) has (contains_text c.loop-rule.unused name) (c.loop-rule.invariant name)
          (λ e. has_name number c.args.ids.now name own _ w.if-not-contains_key.ensures (sym is ∙ e))
          ∙ sym more
      | in-Some+else-not-contains_key w ↦
          let own = w.in-Some.name.now in
          let is = named name own r w.in-Some.ensures in
          ap (λ s. contains_text s name) w.unused-is
          ∙ without_name before (is_named name r) has (contains_text c.loop-rule.unused name) (c.loop-rule.invariant name)
          (λ e. has_name number c.args.ids.now name own _ w.if-not-contains_key.ensures (sym is ∙ e))
          ∙ sym more
      | in_default w ↦
          ap (λ s. contains_text s name) w.unused-is ∙ c.loop-rule.invariant name
          ∙ sym (more ∙ ap (λ b. (before || b) && not has) (unnamed name r (sym (ap (option_map (λ s. s.now)) w.in_default.is) ∙ c.name.ensures)) ∙ ap (λ b. b && not has) (or-false before))
    ]

pub returns : goal.returns
returns g c =
    holds_texts _ c.loop-rule.unused c.unless_empty.result c.unless_empty.ensures (λ name.
    c.loop-rule.invariant name
    ∙ ap (λ rs. is_unused (ids_of g.S.Numbered.number c.args.ids.now) (map (as_rule g.S.Numbered.number) rs) name) (take_all c.loop-rule.rule-index c.args.rules.now (omega (arith, c.loop-rule-test.false))))
