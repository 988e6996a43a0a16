use Rattle.std.proofs.Common.{◌≡◌, ℕ, List, map, take}
use Rattle.std.specs.HashSet.{contains_by}
use Rattle.lrlex_base.specs.Spans.{Span}
use Rattle.lrlex_rules.specs.RuleParts.{as_rule}
use Rattle.lrlex_rules.specs.Ids.{is_unused_at, is_key_at, ids_of}
use Rattle.lrlex_rules.proofs.ids.places_without_id.Given as goal

-- the set has the names so far that the map lacks, with their places
abbrev pub invariant-loop-rule : goal.invariant-loop-rule
invariant-loop-rule g l =
    (name : List ℕ) (place : Span) → contains_by (is_key_at name place) l.unused
    ≡ is_unused_at (ids_of g.S.Numbered.number l.ids) (map (as_rule g.S.Numbered.number) (take l.rule-index l.rules)) name place
