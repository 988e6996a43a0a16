-- What the rules so far list.
use Rattle.std.proofs.Common.{◌≡◌, ℕ, ◌<◌, length, map, take}
use Rattle.lrlex_rules.specs.Active.{lists_state, places_from}
use Rattle.lrlex_rules.specs.RuleLists.{list_in}
use Rattle.lrlex_rules.specs.RuleParts.{as_rule}
use Rattle.lrlex_rules.proofs.active.listed_places.Given as goal

abbrev pub invariant-rules : goal.invariant-rules
invariant-rules g l = record {
  each : length l.lists.items ≡ l.count;
  listed : (i : ℕ) → i < l.count → list_in (map (λ v. v.items) l.lists.items) i
      ≡ places_from (lists_state i) 0 (map (as_rule (λ _. 0)) (take l.index l.rules));
}
