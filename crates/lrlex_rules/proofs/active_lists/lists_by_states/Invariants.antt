-- The lists of the states so far.
use Rattle.std.proofs.Common.{◌≡◌, ◌<◌, map, take, length, All}
use Rattle.lrlex_rules.specs.Active.{active_places}
use Rattle.lrlex_rules.specs.RuleLists.{lists_at}
use Rattle.lrlex_rules.specs.RuleParts.{as_rule, as_state}
use Rattle.lrlex_rules.proofs.active_lists.lists_by_states.Given as goal

abbrev pub invariant-states : goal.invariant-states
invariant-states g l = record {
  listed : lists_at l.lists.items l.at.items
      ≡ map (λ s. active_places (map as_state l.states) (map (as_rule (λ _. 0)) l.rules) (as_state s).id) (take l.index l.states);
  within : All (λ j. j < length l.lists.items) l.at.items;
}
