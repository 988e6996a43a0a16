use Rattle.std.proofs.Common.{◌≡◌, map, take}
use Rattle.lrlex_rules.specs.Active.{lists_none, places_from}
use Rattle.lrlex_rules.specs.RuleParts.{as_rule}
use Rattle.lrlex_rules.proofs.active.unlisted_places.Given as goal

abbrev pub invariant-rules : goal.invariant-rules
invariant-rules g l = l.places.items ≡ places_from lists_none 0 (map (as_rule (λ _. 0)) (take l.index l.rules))
