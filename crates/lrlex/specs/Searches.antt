-- How many searches a run makes: only rules that the tables of a state leave out are searched for.
use Rattle.std.specs.Prelude.{◌≡◌, ℕ, ◌+◌, ◌-◌, ◌<◌, ◌⊎◌, min, List, length, map, slice_range, nat_lt, if◌then◌else◌}
use Rattle.std.specs.List.{sum_by}
use Rattle.lrlex_rules.specs.Tiling.{top}
use Rattle.lrlex_boundaries.specs.Boundaries.{Boundary, place_and_stack}
use Rattle.lrlex_boundaries.specs.Moves.{Meets}
use Rattle.lrlex.specs.Lookahead.{IsSafe}
use Rattle.lrlex.specs.declared.definition.non_streaming.LRNonStreamingLexerDef.{LRNonStreamingLexerDef}
use Rattle.lrlex_definition.specs.RuleTable.{untabled_count}
use Rattle.lrlex_definition.specs.declared.rule_table.RuleTable.{RuleTable}

-- the searches at a boundary in a text of this length: one for each rule that is left out, and none at the text's end
abbrev pub asks_at : {S : Type 0} → RuleTable S → ℕ → ℕ × List ℕ → ℕ
asks_at d end b = if nat_lt b.0 end then untabled_count d (top b.1) else 0

-- the searches at all of these boundaries
abbrev pub asks_by : {S : Type 0} → RuleTable S → List ℕ → List Boundary → ℕ
asks_by d text bounds = sum_by (asks_at d (length text)) (map place_and_stack bounds)

-- those of a definition
abbrev pub asks : {L X S E : Type 0} → LRNonStreamingLexerDef L X S E → List ℕ → List Boundary → ℕ
asks d text bounds = asks_by d.table text bounds

-- the last boundary that is safe for an edit from `low` on
pub record IsLastSafe (bounds : List Boundary) (ahead : List ℕ) (low k : ℕ) : Type 0 where
  pub within : k < length bounds
  pub safe : IsSafe bounds ahead low k
  pub last : (j : ℕ) → k < j → j < length bounds → ¬ (IsSafe bounds ahead low j)

-- the first boundary that meets the old run, or the number of boundaries where none does
pub record IsFirstMeeting (old new : List Boundary) (low high len k : ℕ) : Type 0 where
  pub meets : Meets old new low high len k ⊎ (k ≡ length new)
  pub first : (j : ℕ) → j < k → ¬ (Meets old new low high len j)

-- What lexing again takes, after the bytes from low to high gave way to so many others: it cuts tiles from the last safe
-- boundary up to the first that meets the old run, and searches at the boundaries between.
pub record WasRecut (asks : List Boundary → ℕ) (old new : List Boundary) (ahead : List ℕ) (low high len asked recut : ℕ) : Type 0 where
  pub from : ℕ
  pub to : ℕ
  pub resumed : IsLastSafe old ahead low from
  pub met : IsFirstMeeting old new low high len to
  pub searches : asked ≡ asks (slice_range new from to)
  pub tiles : from + recut ≡ min to (length new - 1)
