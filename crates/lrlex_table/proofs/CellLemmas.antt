-- Cells with their marks.
use Rattle.std.proofs.Common.{◌≡◌, ◌≢◌, ℕ, ◌+◌, ◌*◌, ◌<◌, ◌≤◌, true, false, List, length, Option, Some, None, is_some, slice_get, slice_index_or, get_or, refl, sym, ap, ◌∙◌, subst, inl, inr, arith, true≢false}
use Rattle.std.proofs.lemmas.Bool.{cases_lt}
use Rattle.std.proofs.lemmas.Option.{slice_get-get_or}
use Rattle.std.proofs.lemmas.List.{length-map}
use Rattle.std.proofs.lemmas.Grind.{same_number_lists}
use Rattle.std.proofs.Math.ListN.{get_or-map}
use Rattle.lrlex_table.specs.Cell.{row_in, rows_in, is_marked, wins_at}
use Rattle.lrlex_table.specs.Table.{next_of, next_rows}
use Rattle.lrlex_table.specs.declared.table.Table.{Table}

-- the next row is that of the cell
pub row_at : (cells : List ℕ) (i : ℕ) → slice_index_or (rows_in cells) i 0 ≡ row_in (slice_index_or cells i 0)
row_at cells i = get_or-map row_in cells i 0

pub row_of_low : (cell : ℕ) → cell < 32768 → cell ≡ row_in cell
row_of_low cell low = omega arith

-- equal cells lead to the same row
pub same_row : (cells : List ℕ) (i j : ℕ) → slice_index_or cells j 0 ≡ slice_index_or cells i 0 → slice_index_or (rows_in cells) i 0 ≡ slice_index_or (rows_in cells) j 0
same_row cells i j same = row_at cells i ∙ ap row_in (sym same) ∙ sym (row_at cells j)

pub some_of : (o : Option ℕ) → is_some o ≡ true → (k : ℕ) × (o ≡ Some k)
some_of (Some k) h = (k, refl)
some_of None h = absurd (true≢false (sym h))

pub none_of : (o : Option ℕ) → is_some o ≡ false → o ≡ None
none_of (Some k) h = absurd (true≢false h)
none_of None h = refl

-- a cell that is not 0 leads to a row that is not 0
pub leads_on : (wins : List (Option ℕ)) (cell : ℕ) → is_marked cell ≡ wins_at wins (row_in cell) → slice_index_or wins 0 None ≡ None → cell ≢ 0 → row_in cell ≢ 0
leads_on wins cell mark dead some zero = elim (cases_lt cell 32768) [
  | inl low ↦ some (omega (arith, zero))
  | inr high ↦
      let bare : is_marked cell ≡ false = mark ∙ ap (wins_at wins) zero ∙ ap is_some dead in
      let marked : is_marked cell ≡ true = grind arith in
      absurd (true≢false (sym marked ∙ bare))
]

pub marked_row : (wins : List (Option ℕ)) (cell : ℕ) → is_marked cell ≡ wins_at wins (row_in cell) → 32768 ≤ cell → (k : ℕ) × (slice_index_or wins (row_in cell) None ≡ Some k)
marked_row wins cell mark high =
    let marked : is_marked cell ≡ true = grind arith in some_of (slice_index_or wins (row_in cell) None) (sym mark ∙ marked)

pub unmarked_row : (wins : List (Option ℕ)) (cell : ℕ) → is_marked cell ≡ wins_at wins (row_in cell) → cell < 32768 → slice_index_or wins (row_in cell) None ≡ None
unmarked_row wins cell mark low =
    let bare : is_marked cell ≡ false = grind arith in none_of (slice_index_or wins (row_in cell) None) (sym mark ∙ bare)

-- the cell of a row and a byte of the text
pub cell_leads : (t : Table) (hay : List ℕ) (j r cell : ℕ) → j < length hay → cell ≡ slice_index_or t.cells.items (r * 256 + get_or hay j 0) 0 →
    row_in cell ≡ next_of (next_rows t) r (slice_get hay j)
cell_leads t hay j r cell lt read =
    ap row_in read ∙ sym (row_at t.cells.items (r * 256 + get_or hay j 0)) ∙ ap (next_of (next_rows t) r) (sym (slice_get-get_or hay j 0 lt))

pub cell_marked : (t : Table) (cell i : ℕ) → cell ≡ slice_index_or t.cells.items i 0 → is_marked cell ≡ wins_at t.wins.items (row_in cell)
cell_marked t cell i read = subst (λ x. is_marked x ≡ wins_at t.wins.items (row_in x)) (sym read) (t.sound.3 i)

pub cell_within : (t : Table) (cell i : ℕ) → cell ≡ slice_index_or t.cells.items i 0 → row_in cell < length t.wins.items
cell_within t cell i read = subst (λ x. row_in x < length t.wins.items) (sym read) (t.sound.2 i)

pub row_within : (t : Table) (r i : ℕ) → r ≡ slice_index_or (next_rows t) i 0 → r < length t.wins.items
row_within t r i is = subst (λ q. q < length t.wins.items) (sym (row_at t.cells.items i) ∙ sym is) (t.sound.2 i)

-- the rows are those that were marked
pub rows_back : (cells next : List ℕ) → length cells ≡ length next → ((i : ℕ) → i < length next → row_in (slice_index_or cells i 0) ≡ slice_index_or next i 0) → rows_in cells ≡ next
rows_back cells next len each =
    same_number_lists (rows_in cells) next (length-map cells row_in ∙ len) (λ k lt. row_at cells k ∙ each k (omega (arith, lt, length-map cells row_in, len)))
