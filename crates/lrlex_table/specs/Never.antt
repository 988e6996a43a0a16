-- Patterns that never win.
use Rattle.std.specs.Prelude.{◌≡◌, ◌≢◌, ℕ, ◌<◌, Bool, true, false, List, [], length, map, Some, None, slice_get, slice_index_or}
use Rattle.regex.specs.Patterns.{Re}
use Rattle.lrlex_table.specs.Table.{IsLongest}
use Rattle.lrlex_table.specs.Reach.{IsText}
use Rattle.lrlex_table.specs.declared.table.Table.{Table}
use Rattle.lrlex_table.specs.Tables.{AreTablesOf}
use Rattle.lrlex_table.specs.declared.merged_tables.Part.{Part}
use Rattle.lrlex_table.specs.declared.tables.Tables.{Tables}

-- no text has its longest match by the pattern at place k
pub record NeverWins (ps : List Re) (k : ℕ) : Type 0 where
  pub never : (text : List ℕ) (n : ℕ) → IsText text → IsLongest ps text k n → ⊥

-- where the list says no of a place, the pattern there never wins
abbrev pub NoneOfWins : List Re → List Bool → Type 0
NoneOfWins ps may = (k : ℕ) → slice_index_or may k true ≡ false → NeverWins ps k

-- pattern k is the first that matches at this row, which isn't the first: there a pattern matches no byte
abbrev pub WinsAt : Table → ℕ → ℕ → Type 0
WinsAt t row k = (row ≢ t.start) × (slice_index_or t.wins.items row None ≡ Some k)

-- where the part's table has no row that one of the part's patterns wins, the list says no of the pattern's place
abbrev pub IsStruck : Part → List Bool → ℕ → Type 0
IsStruck p may i = ((row : ℕ) → WinsAt p.table row i → ⊥) → slice_index_or may (slice_index_or p.patterns.items i 0) false ≡ false

-- so it does for each pattern of each of the first n parts
abbrev pub AreStruck : List Part → List Bool → ℕ → Type 0
AreStruck parts may n = (q i : ℕ) (p : Part) → q < n → slice_get parts q ≡ Some p → i < length p.patterns.items → IsStruck p may i

-- each list of rules, where rule r has this pattern, has its tables at its place
abbrev pub AreTablesOn : (ℕ → Re) → List (List ℕ) → List Tables → Type 0
AreTablesOn pattern lists tables = (j : ℕ) (t : Tables) → slice_get tables j ≡ Some t → AreTablesOf (map pattern (slice_index_or lists j [])) t

-- where rule r stands in one of the first n lists, it never wins there
abbrev pub NeverWinsIn : (ℕ → Re) → List (List ℕ) → ℕ → ℕ → Type 0
NeverWinsIn pattern lists n r =
    (j k : ℕ) → j < n → k < length (slice_index_or lists j []) → slice_index_or (slice_index_or lists j []) k 0 ≡ r → NeverWins (map pattern (slice_index_or lists j [])) k

-- one of the tables has the rule at place k of its list, and no row that it wins
abbrev pub WinsNowhere : Tables → ℕ → Type 0
WinsNowhere t k =
    (q : ℕ) × (i : ℕ) × (p : Part) × (slice_get t.parts.items q ≡ Some p) × (i < length p.patterns.items) × (slice_index_or p.patterns.items i 0 ≡ k)
    × ((row : ℕ) → WinsAt p.table row i → ⊥)

-- so it is wherever rule r stands in a list
abbrev pub WinsNowhereIn : List (List ℕ) → List Tables → ℕ → Type 0
WinsNowhereIn lists tables r =
    (j k : ℕ) (t : Tables) → slice_get tables j ≡ Some t → k < length (slice_index_or lists j []) → slice_index_or (slice_index_or lists j []) k 0 ≡ r → WinsNowhere t k
