use Rattle.std.proofs.Common.{◌≡◌, map, take}
use Rattle.lrlex_rules.specs.Active.{active_places}
use Rattle.lrlex_rules.specs.RuleParts.{as_rule, as_state}
use Rattle.lrlex_rules.proofs.active.active_places.Given as goal

abbrev pub invariant-rules : goal.invariant-rules
invariant-rules g l = l.places.items ≡ active_places (map as_state l.states) (map (as_rule (λ s. 0)) (take l.index l.rules)) l.id
