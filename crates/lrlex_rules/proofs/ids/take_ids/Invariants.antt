use Rattle.std.proofs.Common.{◌≡◌, ◌++◌, map, take, drop}
use Rattle.lrlex_rules.specs.RuleParts.{as_rule}
use Rattle.lrlex_rules.specs.Ids.{ids_of, with_own_id}
use Rattle.lrlex_rules.proofs.ids.take_ids.Given as goal

-- the rules so far have their ids, and the others are as they were
abbrev pub invariant-loop-rule : goal.invariant-loop-rule
invariant-loop-rule g l =
    let views = map (as_rule g.S.Numbered.number) l.initial.rules in
    map (as_rule g.S.Numbered.number) l.rules ≡ map (with_own_id (ids_of g.S.Numbered.number l.ids)) (take l.rule-index views) ++ drop l.rule-index views
