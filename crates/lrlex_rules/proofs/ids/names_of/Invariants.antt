use Rattle.std.proofs.Common.{◌≡◌, ℕ, List, map, take}
use Rattle.std.specs.List.{list_any}
use Rattle.std.specs.Str.{bytes_eq}
use Rattle.std.specs.HashSet.{contains_by}
use Rattle.lrlex_rules.specs.RuleParts.{as_rule}
use Rattle.lrlex_rules.specs.Ids.{is_named}
use Rattle.lrlex_rules.proofs.ids.names_of.Given as goal

-- the set has the names of the rules so far
abbrev pub invariant-loop-rule : goal.invariant-loop-rule
invariant-loop-rule g l =
    (name : List ℕ) → contains_by (λ k. bytes_eq name k.now) l.names ≡ list_any (is_named name) (map (as_rule g.S.Numbered.number) (take l.rule-index l.rules))
