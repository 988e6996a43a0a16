use Rattle.std.proofs.Common.{◌≡◌, ℕ, List, map, take}
use Rattle.std.specs.HashSet.{contains_text}
use Rattle.lrlex_rules.specs.RuleParts.{as_rule}
use Rattle.lrlex_rules.specs.Ids.{is_unused, ids_of}
use Rattle.lrlex_rules.proofs.ids.names_without_id.Given as goal

-- the set has the names so far that the map lacks
abbrev pub invariant-loop-rule : goal.invariant-loop-rule
invariant-loop-rule g l =
    (name : List ℕ) → contains_text l.unused name ≡ is_unused (ids_of g.S.Numbered.number l.ids) (map (as_rule g.S.Numbered.number) (take l.rule-index l.rules)) name
