-- The chain of lists of patterns (Chain): its walk goes on behind a match with the next one, in the list that follows.
use Rattle.std.specs.Prelude.{◌≡◌, ◌≢◌, ℕ, zero, suc, ◌+◌, ◌-◌, ◌<◌, ◌≤◌, true, List, All, [], ◌∷◌, length, take, drop, Some, None, slice_get, slice_index_or, IsCharBoundary}
use Rattle.lrlex_table.specs.Cell.{wins_at}
use Rattle.lrlex_table.specs.Table.{next_rows, next_of}
use Rattle.lrlex_table.specs.Reach.{row_after}
use Rattle.lrlex_table.specs.declared.table.Table.{Table}
use Rattle.lrlex_table.specs.declared.chain.Chain.{Chain}
use Rattle.lrlex_table.specs.declared.marks.Name.{Name}
use Rattle.lrlex_table.specs.declared.merged_tables.Part.{Part}
use Rattle.lrlex_table.specs.declared.tables.Tables.{Tables}
use Rattle.lrlex_table.specs.declared.marks.Mark.{Mark}

abbrev pub no_name : Name
no_name = record { list = 0; pattern = 0 }

-- the chain's row behind row r on byte b
abbrev pub row_behind : List ℕ → List ℕ → ℕ → ℕ → ℕ
row_behind cells columns r b = slice_index_or cells (slice_index_or columns b 0 + r) 0

-- the list of the chain's row, the row of that list's table for which it stands, and the place in the list of the pattern that wins there
abbrev pub list_of : Chain → ℕ → ℕ
list_of c r = (slice_index_or c.names.items r no_name).list

abbrev pub base_of : Chain → ℕ → ℕ
base_of c r = slice_index_or c.bases.items r 0

abbrev pub name_of : Chain → ℕ → ℕ
name_of c r = (slice_index_or c.names.items r no_name).pattern

-- the row where a walk for list m begins, and whether there is one
abbrev pub start_of : Chain → ℕ → ℕ
start_of c m = slice_index_or c.starts.items m (length c.bases.items)

abbrev pub IsIn : Chain → ℕ → Type 0
IsIn c m = start_of c m < length c.bases.items

-- of list l, of which this is the table: a walk may begin at the row
abbrev pub BeginsIn : Table → ℕ → Chain → ℕ → Type 0
BeginsIn t l c r = list_of c r ≡ l → base_of c r ≡ t.start

-- a match of list l ends in the row, if it is on this byte that the next one begins: the table's row goes nowhere, and a pattern matches there
abbrev pub EndsOn : Table → ℕ → Chain → ℕ → ℕ → Type 0
EndsOn t l c r b =
    list_of c r ≡ l →
    (next_of (next_rows t) (base_of c r) (Some b) ≡ 0)
    × (wins_at t.wins.items (base_of c r) ≡ true)
    × (base_of c r ≢ t.start)

-- The chain's row goes to row `to` on the byte. Below the fresh rows it goes where the row of list l goes. Else a match ends, and the next
-- one begins, maybe of another list: `to` is where that list's start goes. The byte begins a character.
abbrev pub GoesTo : Table → ℕ → Chain → ℕ → ℕ → ℕ → Type 0
GoesTo t l c r b to =
    (to < c.fresh → (list_of c to ≡ list_of c r) × (list_of c r ≡ l → base_of c to ≡ next_of (next_rows t) (base_of c r) (Some b)))
    × (c.fresh ≤ to → EndsOn t l c r b × (list_of c to ≡ l → base_of c to ≡ next_of (next_rows t) t.start (Some b)) × (128 ≤ b → 192 ≤ b))

-- of list l, of which this is the table: walks begin at the table's start, and go on each byte as the table says
abbrev pub IsChainOf : Table → ℕ → Chain → Type 0
IsChainOf t l c =
    ((m : ℕ) → IsIn c m → BeginsIn t l c (start_of c m))
    × ((r b : ℕ) → r < length c.bases.items → b < 256 → GoesTo t l c r b (row_behind c.cells.items c.columns.items r b))

-- where a pattern of list l wins at a row of the chain, the chain has the pattern's place in the list
abbrev pub NamesWinners : Part → ℕ → Chain → Type 0
NamesWinners p l c =
    (r k : ℕ) → r < length c.bases.items → list_of c r ≡ l → slice_index_or p.table.wins.items (base_of c r) None ≡ Some k →
    name_of c r ≡ slice_index_or p.patterns.items k 0

-- the patterns of list l are those of this table, its only one
abbrev pub IsOnly : List Tables → ℕ → Part → Type 0
IsOnly lists l p = (ts : Tables) × (slice_get lists l ≡ Some ts) × (ts.asked.items ≡ []) × (ts.parts.items ≡ p ∷ [])

-- they are those of list l, each pattern is in the only one, and this is its chain
abbrev pub IsChainOfAll : Tables → ℕ → Chain → Type 0
IsChainOfAll ts l c = (ts.asked.items ≡ []) × (length ts.parts.items ≡ 1) × All (λ p. IsChainOf p.table l c × NamesWinners p l c) ts.parts.items

-- the chain of those of the lists that are in it, and each row is of one of them
pub record IsChainOfLists (lists : List Tables) (c : Chain) : Type 0 where
  pub within : (l : ℕ) → IsIn c l → l < length lists
  pub each : (l : ℕ) (ts : Tables) → IsIn c l → slice_get lists l ≡ Some ts → IsChainOfAll ts l c
  pub rows : (r : ℕ) → r < length c.bases.items → IsIn c (list_of c r)

-- The table's walk reads the first n bytes of the text and comes to row r, where a pattern matches. On the next byte it goes nowhere.
abbrev pub IsCut : Table → List ℕ → ℕ → ℕ → Type 0
IsCut t text n r =
    (0 < n)
    × (n < length text)
    × (row_after (next_rows t) t.start (take n text) ≡ r)
    × (wins_at t.wins.items r ≡ true)
    × (next_of (next_rows t) r (slice_get text n) ≡ 0)

-- the table's row behind the first n bytes of the text
abbrev pub row_at : Table → List ℕ → ℕ → ℕ
row_at t text n = row_after (next_rows t) t.start (take n text)

-- the walk through the part's table is cut behind n bytes of the text, where pattern k of the list wins
abbrev pub IsWonBy : Part → List ℕ → ℕ → ℕ → Type 0
IsWonBy p text k n =
    IsCut p.table text n (row_at p.table text n)
    × ((w : ℕ) → slice_index_or p.table.wins.items (row_at p.table text n) None ≡ Some w → k ≡ slice_index_or p.patterns.items w 0)

abbrev pub no_mark : Mark
no_mark = record { row = 0; end = 0 }

-- where match k ends, and the chain's row there
abbrev pub end_of : List Mark → ℕ → ℕ
end_of marks k = (slice_index_or marks k no_mark).end

abbrev pub row_of : List Mark → ℕ → ℕ
row_of marks k = (slice_index_or marks k no_mark).row

-- where match k begins: the first at its place, each other where the one before it ends
abbrev pub begin_of : ℕ → List Mark → ℕ → ℕ
begin_of first marks zero = first
begin_of first marks (suc k) = end_of marks k

-- In the text from `from` on, a match begins at p and ends at e, between characters, in row r of the chain. If the row is of list l, the
-- table is cut there.
abbrev pub IsCutAt : Table → ℕ → Chain → List ℕ → ℕ → ℕ → ℕ → ℕ → Type 0
IsCutAt t l c text from p e r =
    (r < length c.bases.items) × IsCharBoundary text (from + e) × (list_of c r ≡ l → (p < e) × IsCut t (drop (from + p) text) (e - p) (base_of c r))

-- In the text from `from` on, the marks cut: the first match begins at `first`, and each of `count` ends at its mark, in the row that is noted there.
abbrev pub AreMarksOf : Table → ℕ → Chain → List ℕ → ℕ → ℕ → List Mark → ℕ → Type 0
AreMarksOf t l c text from first marks count =
    (k : ℕ) → k < count → IsCutAt t l c text from (begin_of first marks k) (end_of marks k) (row_of marks k)

-- the mark, counted from so many bytes before
abbrev pub later : ℕ → Mark → Mark
later apart m = record { row = m.row; end = apart + m.end }

-- The marks are some of the first lane's, and then some of the second's, which counts from `apart` on. Where there are any of these, a match of
-- both lanes begins where they do.
pub record AreJoined (first : List Mark) (count apart : ℕ) (second : List Mark) (others : ℕ) (marks : List Mark) (total : ℕ) : Type 0 where
  pub kept : ℕ
  pub passed : ℕ
  pub taken : ℕ
  pub all : total ≡ kept + taken
  pub of_first : kept ≤ count
  pub of_second : passed + taken ≤ others
  pub meet : 0 < taken → begin_of 0 first kept ≡ apart + begin_of 0 second passed
  pub before : (k : ℕ) → k < kept → slice_index_or marks k no_mark ≡ slice_index_or first k no_mark
  pub behind : (k : ℕ) → k < taken → slice_index_or marks (kept + k) no_mark ≡ later apart (slice_index_or second (passed + k) no_mark)
