use Rattle.std.proofs.Common.{◌≡◌, ℕ, List, map, ◌&&◌, not}
use Rattle.std.specs.List.{list_any}
use Rattle.std.specs.Str.{bytes_eq}
use Rattle.std.specs.HashSet.{contains_by}
use Rattle.lrlex_rules.specs.RuleParts.{as_rule}
use Rattle.lrlex_rules.specs.Ids.{is_named}
use Rattle.lrlex_rules.proofs.ids.names_without_rule.Given as goal

-- the set has the names so far that no rule has
abbrev pub invariant-loop-name : goal.invariant-loop-name
invariant-loop-name g l =
    (name : List ℕ) → contains_by (λ k. bytes_eq name k.now) l.lacking
    ≡ (list_any (λ k. bytes_eq name k.now.now) l.yielded && not (list_any (is_named name) (map (as_rule g.S.Numbered.number) l.rules)))
