use Rattle.std.proofs.Common.{◌||◌, map, take, sym, ap, ◌∙◌, arith, option_map}
use Rattle.std.proofs.Math.Bool.{or-false}
use Rattle.std.proofs.lemmas.List.{take_all}
use Rattle.std.specs.List.{list_any}
use Rattle.std.specs.Str.{bytes_eq}
use Rattle.std.specs.HashSet.{contains_by}
use Rattle.lrlex_rules.specs.RuleParts.{as_rule}
use Rattle.lrlex_rules.specs.Ids.{is_named}
use Rattle.lrlex_rules.proofs.IdLemmas.{inserted, named_more, named, unnamed, same_name}
use Rattle.lrlex_rules.proofs.ids.names_of.Goals as goal
use Rattle.lrlex_rules.proofs.ids.names_of.Goals.{in-Some+in_ok-insert, in_default}

pub loop-rule-preserved : goal.loop-rule-preserved
loop-rule-preserved g c = λ name.
    let number = g.S.Numbered.number in
    let r = c.rule-item.result in
    let before = list_any (is_named name) (map (as_rule number) (take c.loop-rule.rule-index c.args.rules.now)) in
    let more = named_more number (is_named name) c.args.rules.now c.loop-rule.rule-index r (omega (arith, c.loop-rule-test.true, c.loop-rule.auto.rule-index-end)) c.rule-item.is in
    elim c.match-name.branch [
      | in-Some+in_ok-insert w ↦
          ap (contains_by (λ k. bytes_eq name k.now)) w.names-is
          ∙ inserted (λ x y. bytes_eq x.now y.now) (λ k. bytes_eq name k.now) c.loop-rule.names w.insert.new.self w.in-Some.name w.in_ok-insert.field-0 (λ y e. same_name name w.in-Some.name.now y.now e) w.in_ok-insert.ensures.added w.in_ok-insert.ensures.keys
          ∙ ap (λ b. b || bytes_eq name w.in-Some.name.now) (c.loop-rule.invariant name)
          ∙ ap (λ b. before || b) (sym (named name w.in-Some.name.now (as_rule number r) w.in-Some.ensures))
          ∙ sym more
      | in_default w ↦
          ap (contains_by (λ k. bytes_eq name k.now)) w.names-is ∙ c.loop-rule.invariant name
          ∙ sym (more ∙ ap (λ b. before || b) (unnamed name (as_rule number r) (sym (ap (option_map (λ s. s.now)) w.in_default.is) ∙ c.name.ensures)) ∙ or-false before)
    ]

pub returns : goal.returns
returns g c = λ name.
    c.loop-rule.invariant name
    ∙ ap (λ rs. list_any (is_named name) (map (as_rule g.S.Numbered.number) rs)) (take_all c.loop-rule.rule-index c.args.rules.now (omega (arith, c.loop-rule-test.false)))
