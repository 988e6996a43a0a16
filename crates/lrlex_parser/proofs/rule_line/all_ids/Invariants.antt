use Rattle.std.proofs.Common.{◌≡◌, map, take}
use Rattle.lrlex_rules.specs.Definition.{StartState}
use Rattle.lrlex_rules.specs.RuleParts.{as_state}
use Rattle.lrlex_parser.proofs.rule_line.all_ids.Given as goal

-- the ids so far
abbrev pub invariant-loop-state : goal.invariant-loop-state
invariant-loop-state l = l.ids.items ≡ map (λ (s : StartState). s.id) (map as_state (take l.state-index l.states.list.items))
