-- Matches that were found ahead (Ahead).
use Rattle.std.specs.Prelude.{◌≡◌, ℕ, zero, suc, ◌+◌, ◌-◌, ◌<◌, ◌≤◌, min, List, All, [], length, drop, Some, slice_get, IsCharBoundary}
use Rattle.regex.specs.Patterns.{Re}
use Rattle.lrlex_table.specs.Reach.{IsDecidedBy}
use Rattle.lrlex_table.specs.Tables.{is_tabled, AreTablesOf, IsBestAmong}
use Rattle.lrlex_table.specs.Chain.{IsChainOf, IsWonBy, list_of, name_of, begin_of, end_of, row_of, AreMarksOf}
use Rattle.lrlex_table.specs.declared.table.Table.{Table}
use Rattle.lrlex_table.specs.declared.chain.Chain.{Chain}
use Rattle.lrlex_table.specs.declared.tables.Tables.{Tables}
use Rattle.lrlex_table.specs.declared.marks.Mark.{Mark}
use Rattle.lrlex_table.specs.declared.ahead.Ahead.{Ahead}
use Rattle.lrlex_table.specs.declared.looking.MatchAhead.{MatchAhead}

-- how many bytes of the text it looks at from `from` on
abbrev pub bytes_ahead : Ahead → List ℕ → ℕ → ℕ
bytes_ahead a text from = min (min a.bytes (length text - from)) 8192

-- in the text from `from` on, marks of the chain were found, and none of the matches between them is passed
pub record IsFoundIn (c : Chain) (text : List ℕ) (from : ℕ) (a : Ahead) : Type 0 where
  pub all : a.at ≡ 0
  pub room : a.count ≤ length a.marks.items
  pub from_is : a.from ≡ from
  pub begin : 0 < a.count → a.begin ≡ from
  pub cut : (t : Table) (l : ℕ) → IsChainOf t l c → AreMarksOf t l c text from 0 a.marks.items a.count

-- each pattern of the list is in its only table, and at this place of the text pattern k wins with n bytes, which the byte behind them decides
abbrev pub IsWonAt : Tables → List ℕ → ℕ → ℕ → ℕ → Type 0
IsWonAt ts text place k n =
    (ts.asked.items ≡ [])
    × (length ts.parts.items ≡ 1)
    × (place + n < length text)
    × IsCharBoundary text place
    × All (λ p. IsWonBy p (drop place text) k n) ts.parts.items

-- In the text from `from` on, each match begins where the one before it ends. In the list of its row it wins there, by the pattern that the
-- chain has for the row.
abbrev pub AreWonIn : List Tables → Chain → List ℕ → ℕ → List Mark → ℕ → Type 0
AreWonIn lists c text from marks count =
    (k : ℕ) → k < count → (ts : Tables) → slice_get lists (list_of c (row_of marks k)) ≡ Some ts →
    (begin_of 0 marks k < end_of marks k)
    × IsWonAt ts text (from + begin_of 0 marks k) (name_of c (row_of marks k)) (end_of marks k - begin_of 0 marks k)

-- in the text, the matches that were found ahead are those of their lists
abbrev pub AreWonAhead : List Tables → Chain → List ℕ → Ahead → Type 0
AreWonAhead lists c text a = AreWonIn lists c text a.from a.marks.items a.count

-- in the text, each match has a mark and ends between characters, and the next one begins at its place
abbrev pub AreAheadIn : List ℕ → Ahead → Type 0
AreAheadIn text a =
    (a.count ≤ length a.marks.items)
    × ((k : ℕ) → k < a.count → IsCharBoundary text (a.from + end_of a.marks.items k))
    × (a.at < a.count → a.begin ≡ a.from + begin_of 0 a.marks.items a.at)

-- this is the next match that was found ahead, and it begins at the place
pub record IsNextAt (a : Ahead) (place : ℕ) (m : MatchAhead) : Type 0 where
  pub left : a.at < a.count
  pub begins : a.begin ≡ place
  pub ends : m.end ≡ a.from + end_of a.marks.items a.at
  pub row : m.row ≡ row_of a.marks.items a.at

-- Each pattern of the list has a table. From the place to the end that lies behind it, pattern k wins, and the byte behind that decides it.
pub record IsBestUpTo (ts : Tables) (text : List ℕ) (place k end : ℕ) : Type 0 where
  pub tabled : ts.asked.items ≡ []
  pub some : place < end
  pub within : end < length text
  pub best : (ps : List Re) → AreTablesOf ps ts → IsBestAmong ps (is_tabled ts.parts.items) (drop place text) k (end - place)
  pub decided : (ps : List Re) → AreTablesOf ps ts → IsDecidedBy ps (drop place text) (end - place + 1)

-- in the text from `from` on, match k of those that these marks end: the first begins at the place, each other where the one before it ends
abbrev pub begin_at : (from place : ℕ) → List Mark → ℕ → ℕ
begin_at from place marks zero = place
begin_at from place marks (suc k) = from + end_of marks k

abbrev pub match_at : (from : ℕ) → List Mark → ℕ → MatchAhead
match_at from marks k = record { row = row_of marks k; end = from + end_of marks k }

-- in the list of its row, the pattern that the chain has for the row wins at the place, up to where the match ends
abbrev pub IsBestIn : List Tables → List ℕ → ℕ → MatchAhead → Chain → Type 0
IsBestIn lists text place m c =
    (ts : Tables) → slice_get lists (list_of c m.row) ≡ Some ts → IsBestUpTo ts text place (name_of c m.row) m.end

-- so it does for each of the matches that these marks end
abbrev pub AreBestIn : List Tables → List ℕ → (from place : ℕ) → List Mark → Chain → Type 0
AreBestIn lists text from place marks c = (k : ℕ) → k < length marks → IsBestIn lists text (begin_at from place marks k) (match_at from marks k) c
