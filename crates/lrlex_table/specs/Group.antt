-- The table of a group of patterns in the making (GroupBuilder): each row stands for a row of each pattern's own table.
use Rattle.std.specs.Prelude.{◌≡◌, ◌≢◌, ◌⊎◌, ℕ, zero, suc, ◌+◌, ◌*◌, ◌<◌, ◌≤◌, ◌==◌, if◌then◌else◌, is_some, List, All, [], ◌∷◌, ◌++◌, length, map, Vec, vec_len, Option, Some, None, IsSome, slice_get, slice_index_or}
use Rattle.std.specs.declared.alloc.Global.{Global}
use Rattle.lrlex_table.specs.Tables.{AreRising}
use Rattle.lrlex_table.specs.Table.{next_of, next_rows}
use Rattle.lrlex_table.specs.declared.cached_table.CachedTable.{CachedTable}
use Rattle.lrlex_table.specs.declared.group.GroupBuilder.{GroupBuilder}
use Rattle.lrlex_table.specs.declared.table.Table.{Table}

-- the table of what is cached, where there is one
abbrev pub cached_table : Option CachedTable → Option Table
cached_table None = None
cached_table (Some s) = s.table

-- what the cache has at the place, where there is one
abbrev pub cached_at : List CachedTable → Option ℕ → Option Table
cached_at cache None = None
cached_at cache (Some place) = cached_table (slice_get cache place)

-- the table of pattern k, whose place in the cache is listed
abbrev pub table_in : List CachedTable → List ℕ → ℕ → Option Table
table_in cache places k = cached_at cache (slice_get places k)

-- for each row and byte the next row, where there is a table
abbrev pub nexts_of : Option Table → List ℕ
nexts_of None = []
nexts_of (Some t) = next_rows t

-- for each row whether the pattern matches there
abbrev pub wins_of : Option Table → List (Option ℕ)
wins_of None = []
wins_of (Some t) = t.wins.items

-- the row where a walk begins
abbrev pub start_of : Option Table → ℕ
start_of None = 0
start_of (Some t) = t.start

-- of each pattern's table the next rows, the matches, and the first row
abbrev pub nexts_in : List CachedTable → List ℕ → ℕ → List ℕ
nexts_in cache places k = nexts_of (table_in cache places k)

abbrev pub wins_in : List CachedTable → List ℕ → ℕ → List (Option ℕ)
wins_in cache places k = wins_of (table_in cache places k)

abbrev pub start_in : List CachedTable → List ℕ → ℕ → ℕ
start_in cache places k = start_of (table_in cache places k)

-- A row of the group is a list of pairs: a pattern, and a row of its table. Of the patterns that aren't listed it is row 0.
abbrev pub row_among : List (ℕ × ℕ) → ℕ → ℕ
row_among [] k = 0
row_among (l ∷ ls) k = if l.0 == k then l.1 else row_among ls k

-- where a row goes on a byte, or at the end of the text; row 0 is dead
abbrev pub step_row : List ℕ → ℕ → Option ℕ → ℕ
step_row next zero o = 0
step_row next (suc r) o = next_of next (suc r) o

-- a row of a pattern's table in front of others, unless it is row 0
abbrev pub live_before : ℕ → ℕ → List (ℕ × ℕ) → List (ℕ × ℕ)
live_before k to ls = if to == 0 then ls else (k, to) ∷ ls

-- where all these rows go on the byte
abbrev pub step_all : (ℕ → List ℕ) → List (ℕ × ℕ) → ℕ → List (ℕ × ℕ)
step_all next [] b = []
step_all next (l ∷ ls) b = live_before l.0 (step_row (next l.0) l.1 (Some b)) (step_all next ls b)

-- the first of the patterns that match at their rows
abbrev pub first_among : (ℕ → List (Option ℕ)) → List (ℕ × ℕ) → Option ℕ
first_among wins [] = None
first_among wins (l ∷ ls) = if is_some (slice_index_or (wins l.0) l.1 None) then Some l.0 else first_among wins ls

-- each of n patterns at the first row of its table
abbrev pub all_starts : (ℕ → ℕ) → ℕ → List (ℕ × ℕ)
all_starts start zero = []
all_starts start (suc n) = all_starts start n ++ (n, start n) ∷ []

-- none of these rows is the first of its table
abbrev pub ArePastStart : (ℕ → ℕ) → List (ℕ × ℕ) → Type 0
ArePastStart start live_rows = All (λ l. l.1 ≢ start l.0) live_rows

-- the patterns whose rows these are
abbrev pub patterns_of : List (ℕ × ℕ) → List ℕ
patterns_of live_rows = map (λ l. l.0) live_rows

abbrev pub live_rows_at : List (List (ℕ × ℕ)) → ℕ → List (ℕ × ℕ)
live_rows_at rows r = slice_index_or rows r []

-- on the byte, these rows go to those that row v stands for
abbrev pub IsGroupCell : (ℕ → List ℕ) → List (List (ℕ × ℕ)) → List (ℕ × ℕ) → ℕ → ℕ → Type 0
IsGroupCell next rows live_rows b v = (v < length rows) × (live_rows_at rows v ≡ step_all next live_rows b)

-- the rows and cells that were made so far are those of the tables of n patterns
pub record IsPartialGroup (n : ℕ) (na : ℕ → List ℕ) (wa : ℕ → List (Option ℕ)) (sa : ℕ → ℕ) (rows : List (List (ℕ × ℕ))) (next : List ℕ) (wins : List (Option ℕ)) : Type 0 where
  pub some : 2 ≤ length rows
  pub nothing : live_rows_at rows 0 ≡ []
  pub first : live_rows_at rows 1 ≡ all_starts sa n
  pub apart : (r : ℕ) → r ≢ 1 → ArePastStart sa (live_rows_at rows r)
  pub rising : (r : ℕ) → AreRising 0 n (patterns_of (live_rows_at rows r))
  pub wide : length next ≤ length wins * 256
  pub below : length wins ≤ length rows
  pub fresh : (i : ℕ) → slice_index_or next i 0 ≢ 1
  pub inside : (i : ℕ) → slice_index_or next i 0 < length rows
  pub wins_are : (r : ℕ) → r < length wins → slice_index_or wins r None ≡ first_among wa (live_rows_at rows r)
  pub cells : (r b : ℕ) → b < 256 → r * 256 + b < length next → IsGroupCell na rows (live_rows_at rows r) b (slice_index_or next (r * 256 + b) 0)

-- the rows stay, and v is one that stands for these, and not row 1
pub record HasLiveRows (old new : List (List (ℕ × ℕ))) (live_rows : List (ℕ × ℕ)) (v : ℕ) : Type 0 where
  pub grows : (new ≡ old) ⊎ (new ≡ old ++ live_rows ∷ [])
  pub other : v ≢ 1
  pub within : v < length new
  pub is : live_rows_at new v ≡ live_rows

-- on the byte, these rows go to those that row v stands for, which is not row 1
abbrev pub IsGroupCellOf : (ℕ → List ℕ) → List (List (ℕ × ℕ)) → List (ℕ × ℕ) → ℕ → ℕ → Type 0
IsGroupCellOf next rows live_rows b v = (v ≢ 1) × IsGroupCell next rows live_rows b v

-- the row that stands for these has its cells below this byte
pub record IsGrouping (n : ℕ) (na : ℕ → List ℕ) (wa : ℕ → List (Option ℕ)) (sa : ℕ → ℕ) (rows : List (List (ℕ × ℕ))) (next : List ℕ) (wins : List (Option ℕ)) (row byte : ℕ) (live_rows : List (ℕ × ℕ)) : Type 0 where
  pub built : IsPartialGroup n na wa sa rows next wins
  pub within : row < length rows
  pub made : length wins ≡ row + 1
  pub at : length next ≡ row * 256 + byte
  pub are : live_rows_at rows row ≡ live_rows

-- what the rows of the builder stand for
abbrev pub live_rows_of : Vec (Vec (ℕ × ℕ) Global) Global → List (List (ℕ × ℕ))
live_rows_of rows = map (λ v. v.items) rows.items

-- the rows of the old builder stay in the new one, where row v stands for these, and isn't row 1
abbrev pub HasLiveRowsOf : GroupBuilder → GroupBuilder → List (ℕ × ℕ) → ℕ → Type 0
HasLiveRowsOf old new = HasLiveRows (live_rows_of old.rows) (live_rows_of new.rows)

-- each of the patterns has a table
abbrev pub AreTabled : List CachedTable → List ℕ → Type 0
AreTabled cache places = (k : ℕ) → k < length places → IsSome (table_in cache places k)

-- the rows and cells are those of the tables of these patterns
abbrev pub IsPartialGroupOf : List CachedTable → List ℕ → List (List (ℕ × ℕ)) → List ℕ → List (Option ℕ) → Type 0
IsPartialGroupOf cache places = IsPartialGroup (length places) (nexts_in cache places) (wins_in cache places) (start_in cache places)

-- the row that stands for these has its cells below this byte, in the group of these patterns
abbrev pub IsGroupingOf : List CachedTable → List ℕ → List (List (ℕ × ℕ)) → List ℕ → List (Option ℕ) → ℕ → ℕ → List (ℕ × ℕ) → Type 0
IsGroupingOf cache places = IsGrouping (length places) (nexts_in cache places) (wins_in cache places) (start_in cache places)

-- in the group in the making the rows below n have all their cells, and no others have any
pub record IsGroupBelow (cache : List CachedTable) (places : List ℕ) (g : GroupBuilder) (n : ℕ) : Type 0 where
  -- each pattern has a table
  pub tabled : AreTabled cache places
  -- rows and cells are those of these tables
  pub built : IsPartialGroupOf cache places (live_rows_of g.rows) g.next.items g.wins.items
  -- there are so many rows
  pub rows : n ≤ vec_len g.rows
  -- for each of them it is noted which pattern matches there
  pub wins : vec_len g.wins ≡ n
  -- and each has a cell for each byte
  pub cells : vec_len g.next ≡ n * 256
