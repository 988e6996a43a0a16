-- The rules of the lists so far that have no table are marked.
use Rattle.std.proofs.Common.{◌≡◌, ℕ, ◌<◌, false, length, map, slice_index_or, take}
use Rattle.std.specs.List.{list_any}
use Rattle.lrlex_definition.specs.Somewhere.{stands_at, untabled_in}
use Rattle.lrlex_rules.specs.RuleLists.{list_in}
use Rattle.lrlex_definition.proofs.rule_table.RuleTable.asked_somewhere.Given as goal

abbrev pub invariant-states : goal.invariant-states
invariant-states g l =
    (length l.marks.items ≡ length l.self.rules.items)
    × ((k : ℕ) → k < length l.self.rules.items → slice_index_or l.marks.items k false
    ≡ list_any (λ j. list_any (stands_at (list_in (map (λ v. v.items) l.self.lists.items) j) k) (untabled_in l.self j)) (take l.at l.self.list_at.items))
