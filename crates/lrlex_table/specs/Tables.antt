-- The tables of a list of patterns (Tables): each serves some of the patterns, and `regex` matches those without a table.
use Rattle.std.specs.Prelude.{◌≡◌, ℕ, ◌+◌, ◌<◌, ◌≤◌, Bool, true, false, ◌==◌, List, All, [], ◌∷◌, length, map, Option, Some, option_map, unwrap_or, vec_len, IfSome, IsCharBoundary, MatchOption, slice_get}
use Rattle.std.specs.List.{list_any, sum_by}
use Rattle.regex.specs.Patterns.{Re}
use Rattle.lrlex_matching.specs.Matching.{match_length}
use Rattle.lrlex_table.specs.Table.{pattern_at, IsTableOf, IsLongest, NoneMatches}
use Rattle.lrlex_table.specs.Reach.{IsText, BeginsAlike}
use Rattle.lrlex_table.specs.declared.cached_table.CachedTable.{CachedTable}
use Rattle.lrlex_table.specs.declared.merged_tables.Part.{Part}
use Rattle.lrlex_table.specs.declared.tables.Tables.{Tables}
use Rattle.lrlex_table.specs.declared.walk.TableScan.{TableScan}
use Rattle.lrlex_table.specs.declared.walk.PatternMatch.{PatternMatch}

-- the cached table at place k, where there is one, is that of pattern k alone
abbrev pub AreCached : (ℕ → Re) → List CachedTable → Type 0
AreCached pattern cache = (k : ℕ) (s : CachedTable) → slice_get cache k ≡ Some s → IfSome s.table (IsTableOf (pattern k ∷ []))

-- how many rows the tables have
abbrev pub rows_of : List Part → ℕ
rows_of parts = sum_by (λ p. vec_len p.table.wins) parts

-- k is among these
abbrev pub is_among : List ℕ → ℕ → Bool
is_among patterns k = list_any (λ j. j == k) patterns

-- pattern k has a table
abbrev pub is_tabled : List Part → ℕ → Bool
is_tabled parts k = list_any (λ p. is_among p.patterns.items k) parts

-- each number is greater than the one before, the first is lo at least, and all are below hi
abbrev pub AreRising : ℕ → ℕ → List ℕ → Type 0
AreRising lo hi [] = lo ≤ hi
AreRising lo hi (x ∷ xs) = (lo ≤ x) × AreRising (x + 1) hi xs

-- the patterns at these places
abbrev pub patterns_at : List Re → List ℕ → List Re
patterns_at ps places = map (λ k. pattern_at ps k) places

-- the table of some of the patterns from lo on and below hi
pub record IsPartOf (ps : List Re) (lo hi : ℕ) (p : Part) : Type 0 where
  pub rises : AreRising lo hi p.patterns.items
  pub table : IsTableOf (patterns_at ps p.patterns.items) p.table

-- each is the table of some of the patterns from lo on and below hi
abbrev pub AreParts : List Re → ℕ → ℕ → List Part → Type 0
AreParts ps lo hi = All (IsPartOf ps lo hi)

-- a pattern that has a table among the others has one among these
abbrev pub Covers : List Part → List Part → Type 0
Covers parts others = (k : ℕ) → is_tabled parts k ≡ false → is_tabled others k ≡ false

-- each pattern from lo on and below hi has a table or is among those that `regex` matches
pub record ArePartsOf (ps : List Re) (lo hi : ℕ) (parts : List Part) (asked : List ℕ) : Type 0 where
  pub are : All (IsPartOf ps lo hi) parts
  pub rises : AreRising lo hi asked
  pub each : (k : ℕ) → lo ≤ k → k < hi → is_tabled parts k ≡ false → is_among asked k ≡ true

-- the tables are those of these patterns
abbrev pub AreTablesOf : List Re → Tables → Type 0
AreTablesOf ps t = ArePartsOf ps 0 (length ps) t.parts.items t.asked.items

-- the match is as long as the other at least, and where it isn't longer, its pattern isn't a later one
abbrev pub IsNoWorse : PatternMatch → PatternMatch → Type 0
IsNoWorse found other = (other.len ≤ found.len) × (other.len ≡ found.len → found.pattern ≤ other.pattern)

-- how many bytes the match has, 0 where there is none
abbrev pub len_of : Option PatternMatch → ℕ
len_of found = unwrap_or (option_map (λ t. t.len) found) 0

-- the match, where there is one, has fewer bytes than this
abbrev pub IsBelow : ℕ → Option PatternMatch → Type 0
IsBelow n found = IfSome found (λ t. t.len < n)

-- this is the longest match of these patterns, and there is one where a pattern matches
abbrev pub IsLongestOf : List Re → List ℕ → Option PatternMatch → Type 0
IsLongestOf ps text found = MatchOption found (NoneMatches ps text) (λ t. IsLongest ps text t.pattern t.len)

-- Among some of the patterns none matches more than n bytes, and where that is not 0, k is the first that matches n.
pub record IsBestAmong (ps : List Re) (among : ℕ → Bool) (text : List ℕ) (k n : ℕ) : Type 0 where
  pub most : (j : ℕ) → j < length ps → among j ≡ true → match_length (pattern_at ps j) text ≤ n
  pub takes : 0 < n → match_length (pattern_at ps k) text ≡ n
  pub first : 0 < n → (j : ℕ) → j < k → among j ≡ true → match_length (pattern_at ps j) text < n
  pub within : 0 < n → k < length ps
  pub cuts : IsCharBoundary text n

-- this is the best match among some of the patterns, and there is one where one of them matches a byte
abbrev pub IsWinnerAmong : List Re → (ℕ → Bool) → List ℕ → Option PatternMatch → Type 0
IsWinnerAmong ps among text o = MatchOption o (IsBestAmong ps among text 0 0) (λ t. (0 < t.len) × IsBestAmong ps among text t.pattern t.len)

-- the text's first `reach` bytes decide how many bytes each of some of the patterns matches
abbrev pub IsDecidedAmong : List Re → (ℕ → Bool) → List ℕ → ℕ → Type 0
IsDecidedAmong ps among text reach =
    (other : List ℕ) → IsText other → BeginsAlike reach text other →
    (k : ℕ) → k < length ps → among k ≡ true → match_length (pattern_at ps k) other ≡ match_length (pattern_at ps k) text

-- the scan has the winner among some of the patterns, and the bytes that decide it
pub record IsTableScanOf (ps : List Re) (among : ℕ → Bool) (text : List ℕ) (s : TableScan) : Type 0 where
  pub winner : IsWinnerAmong ps among text s.winner
  pub decided : IsDecidedAmong ps among text s.reach
