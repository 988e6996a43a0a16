-- Dead ends (DeadEnds): where walks through a table go on in vain.
use Rattle.std.specs.Prelude.{◌≡◌, ℕ, ◌+◌, ◌<◌, ◌≤◌, ◌%◌, ◌⊎◌, Bool, true, false, ◌&&◌, nat_eq, List, length, take, drop, Option, Some, None, option_map, option_and_then, unwrap_or, slice_get, vec_len}
use Rattle.std.specs.HashMap.{HashMap, get}
use Rattle.lrlex_table.specs.Cell.{wins_at}
use Rattle.lrlex_table.specs.Table.{next_rows}
use Rattle.lrlex_table.specs.Reach.{row_after, IsReach}
use Rattle.lrlex_table.specs.declared.table.Table.{Table}
use Rattle.lrlex_table.specs.declared.tables.Tables.{Tables}
use Rattle.lrlex_table.specs.declared.dead_ends.DeadEnd.{DeadEnd}

-- a pattern matches at the row to which these bytes lead from row r
abbrev pub matches_after : Table → ℕ → List ℕ → Bool
matches_after t r bytes = wins_at t.wins.items (row_after (next_rows t) r bytes)

-- A walk from row r over these bytes reads so many of them, where their end counts as one more, and at no row on its
-- way does a pattern match, row r included.
abbrev pub IsVain : Table → ℕ → List ℕ → ℕ → Type 0
IsVain t r bytes more =
    (0 < more)
    × (more ≤ length bytes + 1)
    × ((i : ℕ) → i < more → matches_after t r (take i bytes) ≡ false)
    × (more ≤ length bytes → row_after (next_rows t) r (take more bytes) ≡ 0)

-- A walk through the table reads `reach` bytes of the text, where its end counts as one more, and past the first
-- `len` no pattern matches.
abbrev pub IsVainPast : Table → List ℕ → ℕ → ℕ → Type 0
IsVainPast t text len reach =
    (reach ≤ length text + 1)
    × ((i : ℕ) → len < i → i < reach → matches_after t t.start (take i text) ≡ false)
    × (reach ≤ length text → row_after (next_rows t) t.start (take reach text) ≡ 0)

-- the table of this part of this list
abbrev pub table_at : List Tables → ℕ → ℕ → Option Table
table_at lists list part = option_and_then (λ t. option_map (λ p. p.table) (slice_get t.parts.items part)) (slice_get lists list)

-- in the text, a walk through the table of this part that comes to the dead end's row at its place goes on in vain
abbrev pub IsDeadEndIn : List Tables → List ℕ → DeadEnd → Type 0
IsDeadEndIn lists text e = (t : Table) → table_at lists e.list e.part ≡ Some t → IsVain t e.row (drop e.place text) e.more

-- two dead ends are of one list, part, row and place
abbrev pub is_same_end : ℕ × ℕ × ℕ × ℕ → ℕ × ℕ × ℕ × ℕ → Bool
is_same_end x y = ((nat_eq x.0 y.0 && nat_eq x.1 y.1) && nat_eq x.2 y.2) && nat_eq x.3 y.3

-- how many bytes are read from the dead end of this list, part, row and place on, if it is known
abbrev pub more_of : {S : Type 0} → HashMap (ℕ × ℕ × ℕ × ℕ) ℕ S → (list part row place : ℕ) → Option ℕ
more_of known list part row place = get is_same_end known (list, part, row, place)

-- all that are known are dead ends
abbrev pub AreDeadEndsIn : {S : Type 0} → List Tables → List ℕ → HashMap (ℕ × ℕ × ℕ × ℕ) ℕ S → Type 0
AreDeadEndsIn lists text known =
    (list part row place more : ℕ) → more_of known list part row place ≡ Some more →
    IsDeadEndIn lists text (record { list = list; part = part; row = row; place = place; more = more })

-- how many rows the table of this part of this list has, 0 where there is none
abbrev pub rows_at : List Tables → ℕ → ℕ → ℕ
rows_at lists list part = unwrap_or (option_map (λ t. vec_len t.wins) (table_at lists list part)) 0

-- this is a row of the table of this part, and the place is a multiple of 64 within the text
pub record IsWithin (lists : List Tables) (text : List ℕ) (list part row place : ℕ) : Type 0 where
  pub below : row < rows_at lists list part
  pub inside : place ≤ length text
  pub due : place % 64 ≡ 0

-- all that are known are at rows of their tables, and at multiples of 64 within the text
abbrev pub AreWithin : {S : Type 0} → List Tables → List ℕ → HashMap (ℕ × ℕ × ℕ × ℕ) ℕ S → Type 0
AreWithin lists text known =
    (list part row place more : ℕ) → more_of known list part row place ≡ Some more → IsWithin lists text list part row place

-- none is known after this place
abbrev pub AreUpTo : {S : Type 0} → ℕ → HashMap (ℕ × ℕ × ℕ × ℕ) ℕ S → Type 0
AreUpTo to known = (list part row place : ℕ) → to < place → more_of known list part row place ≡ None

-- none of this part is known from this place on
abbrev pub HasNoneFrom : {S : Type 0} → HashMap (ℕ × ℕ × ℕ × ℕ) ℕ S → (list part place : ℕ) → Type 0
HasNoneFrom known list part place = (row here : ℕ) → place ≤ here → more_of known list part row here ≡ None

-- a dead end is kept at this place, so many bytes after the walk's last match
abbrev pub IsDue : (place past : ℕ) → Bool → Type 0
IsDue place past due =
    (due ≡ true → (place % 64 ≡ 0) × (64 < past))
    × (due ≡ false → place % 64 ≡ 0 → past ≤ 64)

-- A walk through the table over the text from this place on looks at so many cells, where the text's end counts as one: it passes
-- no known dead end, and stops at one, or where no pattern can match any more.
pub record IsStop {S : Type 0} (known : HashMap (ℕ × ℕ × ℕ × ℕ) ℕ S) (list part : ℕ) (t : Table) (place : ℕ) (rest : List ℕ) (looked : ℕ) : Type 0 where
  pub within : looked ≤ length rest + 1
  pub unknown : (i : ℕ) → i < looked → i < length rest → (place + i) % 64 ≡ 0 →
      more_of known list part (row_after (next_rows t) t.start (take i rest)) (place + i) ≡ None
  pub stops : IsReach t rest looked
      ⊎ ((more : ℕ) × (more_of known list part (row_after (next_rows t) t.start (take looked rest)) (place + looked) ≡ Some more))
