-- The table of one pattern in the making (Determinizer): each row stands for a list of the NFA's threads.
use Rattle.std.specs.Prelude.{◌≡◌, ◌≢◌, ◌⊎◌, ℕ, ◌+◌, ◌*◌, ◌<◌, ◌≤◌, Bool, true, List, [], ◌∷◌, ◌++◌, length, map, Vec, vec_len, Option, Some, None, is_some, if◌then◌else◌, ◌==◌, slice_index, slice_index_or}
use Rattle.std.specs.declared.alloc.Global.{Global}
use Rattle.regex_hir.specs.Looks.{Side}
use Rattle.regex_hir.specs.declared.look.Look as look
use Rattle.regex_hir.specs.declared.look.Look.TheVariants.{Start, StartLf}
use Rattle.regex_nfa.specs.Run.{state_of}
use Rattle.regex_nfa.specs.declared.state.State.TheVariants.{Look}
use Rattle.regex_nfa.specs.declared.nfa.Nfa.{Nfa}
use Rattle.regex_dfa.specs.Moves.{Test, Agrees, MovesForward}
use Rattle.regex_dfa.specs.Walks.{AreStates}
use Rattle.regex_dfa.specs.declared.dfa.Dfa.{Dfa}
use Rattle.lrlex_table.specs.declared.determinize.Determinizer.{Determinizer}

-- the start of the text, or of a line
abbrev pub IsStart : look.Look → Type 0
IsStart l = (l ≡ Start) ⊎ (l ≡ StartLf)

-- below n, each assertion is the start of the text or of a line
abbrev pub AskForStartsBelow : Nfa → ℕ → Type 0
AskForStartsBelow nfa n = (q : ℕ) (l : look.Look) (next : ℕ) → q < n → state_of nfa q ≡ Look l next → IsStart l

-- each assertion of the NFA is the start of the text or of a line
abbrev pub AsksForStarts : Nfa → Type 0
AsksForStarts nfa = (q : ℕ) (l : look.Look) (next : ℕ) → state_of nfa q ≡ Look l next → IsStart l

-- what is before a position of the row: nothing, in row 1, and else the end of a line, or another byte
abbrev pub side_at : ℕ → Bool → Side
side_at r line = record { byte = (if r == 1 then None else Some (if line then 10 else 0)); char = None }

abbrev pub no_side : Side
no_side = record { byte = None; char = None }

-- the step of these threads at a position with this side before it
unfoldable pub StepsFrom : Nfa → Side → Option ℕ → List ℕ → List ℕ → Bool → Type 0
StepsFrom nfa before byte threads next matched =
    (test : Test) → Agrees nfa test before no_side true → MovesForward nfa test threads byte next matched

-- the step of the row's threads, whatever is before the position
unfoldable pub StepsOn : Nfa → ℕ → Option ℕ → List ℕ → List ℕ → Bool → Type 0
StepsOn nfa r byte threads next matched = (line : Bool) → StepsFrom nfa (side_at r line) byte threads next matched

abbrev pub win_of : Bool → Option ℕ
win_of b = if b then Some 0 else None

-- the lists of threads of these rows
abbrev pub lists_of : Vec (Vec ℕ Global) Global → List (List ℕ)
lists_of rows = map (λ v. v.items) rows.items

abbrev pub threads_at : List (List ℕ) → ℕ → List ℕ
threads_at rows r = slice_index_or rows r []

abbrev pub is_won : List (Option ℕ) → ℕ → Bool
is_won wins r = is_some (slice_index_or wins r None)

-- on the byte, row r goes to row v
abbrev pub IsCell : Nfa → List (List ℕ) → Bool → ℕ → ℕ → ℕ → Type 0
IsCell nfa rows matched r b v = (v < length rows) × StepsOn nfa r (Some b) (threads_at rows r) (threads_at rows v) matched

-- the rows and cells that were made so far are those of the NFA
pub record IsPartialDfa (nfa : Nfa) (rows : List (List ℕ)) (next : List ℕ) (wins : List (Option ℕ)) : Type 0 where
  pub some : 2 ≤ length rows
  pub nothing : threads_at rows 0 ≡ []
  pub first : threads_at rows 1 ≡ nfa.start ∷ []
  pub states : (r : ℕ) → AreStates nfa (threads_at rows r)
  pub wide : length next ≤ length wins * 256
  pub below : length wins ≤ length rows
  pub fresh : (i : ℕ) → slice_index_or next i 0 ≢ 1
  pub inside : (i : ℕ) → slice_index_or next i 0 < length rows
  pub wins_are : (r : ℕ) → slice_index_or wins r None ≡ win_of (is_won wins r)
  pub ends : (r : ℕ) → r < length wins → StepsOn nfa r None (threads_at rows r) [] (is_won wins r)
  pub cells : (r b : ℕ) → b < 256 → r * 256 + b < length next → IsCell nfa rows (is_won wins r) r b (slice_index_or next (r * 256 + b) 0)

-- the rows stay, and v is one with these threads, and not row 1
pub record HasRow (old new : List (List ℕ)) (threads : List ℕ) (v : ℕ) : Type 0 where
  pub grows : (new ≡ old) ⊎ (new ≡ old ++ threads ∷ [])
  pub other : v ≢ 1
  pub within : v < length new
  pub is : threads_at new v ≡ threads

-- the rows of the old table stay in the new one, where row v has these threads, and isn't row 1
abbrev pub HasRowOf : Determinizer → Determinizer → List ℕ → ℕ → Type 0
HasRowOf old new = HasRow (lists_of old.rows) (lists_of new.rows)

-- on the byte, row r goes to row v, which is not row 1
abbrev pub IsCellOf : Nfa → List (List ℕ) → Bool → ℕ → ℕ → ℕ → Type 0
IsCellOf nfa rows matched r b v = (v ≢ 1) × IsCell nfa rows matched r b v

-- the row has its cells below this byte
pub record IsFilling (nfa : Nfa) (rows : List (List ℕ)) (next : List ℕ) (wins : List (Option ℕ)) (row byte : ℕ) (threads : List ℕ) (matched : Bool) : Type 0 where
  pub built : IsPartialDfa nfa rows next wins
  pub within : row < length rows
  pub made : length wins ≡ row + 1
  pub at : length next ≡ row * 256 + byte
  pub are : threads ≡ threads_at rows row
  pub won : is_won wins row ≡ matched

-- where a class has a row in this list, each byte of the class leads there
abbrev pub ClassesLead : Dfa → List (List ℕ) → Bool → ℕ → List (Option ℕ) → Type 0
ClassesLead dfa rows matched r led =
    (b v : ℕ) → b < 256 → slice_index_or led (slice_index dfa.class_of b) None ≡ Some v → IsCellOf dfa.nfa rows matched r b v

-- in the table in the making the rows below n have all their cells, and no others have any
pub record IsFilledBelow (nfa : Nfa) (c : Determinizer) (n : ℕ) : Type 0 where
  -- rows and cells are those of the NFA
  pub built : IsPartialDfa nfa (lists_of c.rows) c.next.items c.wins.items
  -- there are so many rows
  pub rows : n ≤ vec_len c.rows
  -- for each of them it is noted what matches there
  pub wins : vec_len c.wins ≡ n
  -- and each has a cell for each byte
  pub cells : vec_len c.next ≡ n * 256

-- in the table in the making the row has its cells below this byte
abbrev pub IsFillingOf : Nfa → Determinizer → ℕ → ℕ → List ℕ → Bool → Type 0
IsFillingOf nfa c = IsFilling nfa (lists_of c.rows) c.next.items c.wins.items

-- in the table in the making the row has its cells below this byte, and the list has the rows to which it goes on the
-- classes that were met
pub record IsFillingBy (dfa : Dfa) (c : Determinizer) (row byte : ℕ) (threads : List ℕ) (matched : Bool) (led : List (Option ℕ)) : Type 0 where
  -- the row has its cells below this byte
  pub filling : IsFillingOf dfa.nfa c row byte threads matched
  -- where a class has a row in the list, each of its bytes leads there
  pub classes : ClassesLead dfa (lists_of c.rows) matched row led
  -- the list has a place for each class
  pub wide : length led ≡ 256
