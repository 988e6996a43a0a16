-- The product of two tables in the making (ProductBuilder): each row stands for a pair of their rows.
use Rattle.std.specs.Prelude.{◌≡◌, ◌≢◌, ◌⊎◌, ℕ, ◌+◌, ◌*◌, ◌<◌, ◌≤◌, List, [], ◌∷◌, ◌++◌, length, vec_len, Option, Some, None, slice_index_or}
use Rattle.lrlex_table.specs.Table.{next_rows, next_of}
use Rattle.lrlex_table.specs.declared.product.ProductBuilder.{ProductBuilder}
use Rattle.lrlex_table.specs.declared.table.Table.{Table}

-- the first of the patterns of two tables, where the second's count from m
abbrev pub first_win : ℕ → Option ℕ → Option ℕ → Option ℕ
first_win m (Some k) other = Some k
first_win m None (Some k) = Some (k + m)
first_win m None None = None

abbrev pub pair_at : List (ℕ × ℕ) → ℕ → ℕ × ℕ
pair_at rows r = slice_index_or rows r (0, 0)

-- from this byte on and below `to` the row's cells are all equal
abbrev pub AreEqualCells : List ℕ → ℕ → ℕ → ℕ → Type 0
AreEqualCells cells r byte to =
    (c : ℕ) → byte ≤ c → c < to → slice_index_or cells (r * 256 + c) 0 ≡ slice_index_or cells (r * 256 + byte) 0

-- on the byte, the row of the pair p goes to row v
abbrev pub IsPairCell : List ℕ → List ℕ → List (ℕ × ℕ) → ℕ × ℕ → ℕ → ℕ → Type 0
IsPairCell na nb rows p b v = (v < length rows) × (pair_at rows v ≡ (next_of na p.0 (Some b), next_of nb p.1 (Some b)))

-- the rows and cells that were made so far are those of the product
pub record IsPartialProduct (na nb : List ℕ) (wa wb : List (Option ℕ)) (sa sb m : ℕ) (rows : List (ℕ × ℕ)) (next : List ℕ) (wins : List (Option ℕ)) : Type 0 where
  pub some : 2 ≤ length rows
  pub nothing : pair_at rows 0 ≡ (0, 0)
  pub first : pair_at rows 1 ≡ (sa, sb)
  pub apart : (r : ℕ) → r ≢ 1 → ((pair_at rows r).0 ≢ sa) × ((pair_at rows r).1 ≢ sb)
  pub wide : length next ≤ length wins * 256
  pub below : length wins ≤ length rows
  pub fresh : (i : ℕ) → slice_index_or next i 0 ≢ 1
  pub inside : (i : ℕ) → slice_index_or next i 0 < length rows
  pub wins_are : (r : ℕ) → r < length wins →
      slice_index_or wins r None ≡ first_win m (slice_index_or wa (pair_at rows r).0 None) (slice_index_or wb (pair_at rows r).1 None)
  pub cells : (r b : ℕ) → b < 256 → r * 256 + b < length next → IsPairCell na nb rows (pair_at rows r) b (slice_index_or next (r * 256 + b) 0)

-- the rows stay, and v is one of this pair, and not row 1
pub record HasPair (sa sb : ℕ) (old new : List (ℕ × ℕ)) (x y v : ℕ) : Type 0 where
  pub grows : (new ≡ old) ⊎ ((new ≡ old ++ (x, y) ∷ []) × (x ≢ sa) × (y ≢ sb))
  pub other : v ≢ 1
  pub within : v < length new
  pub is : pair_at new v ≡ (x, y)

-- the rows of the old product stay in the new one, where row v is that of this pair, and isn't row 1
abbrev pub HasPairOf : ProductBuilder → ProductBuilder → ℕ → ℕ → ℕ → Type 0
HasPairOf old new = HasPair old.first.0 old.first.1 old.rows.items new.rows.items

-- on the byte, the row of the pair p goes to row v, which is not row 1
abbrev pub IsPairCellOf : List ℕ → List ℕ → List (ℕ × ℕ) → ℕ × ℕ → ℕ → ℕ → Type 0
IsPairCellOf na nb rows p b v = (v ≢ 1) × IsPairCell na nb rows p b v

-- the row of the pair p has its cells below this byte
pub record IsPairing (na nb : List ℕ) (wa wb : List (Option ℕ)) (sa sb m : ℕ) (rows : List (ℕ × ℕ)) (next : List ℕ) (wins : List (Option ℕ)) (row byte : ℕ) (p : ℕ × ℕ) : Type 0 where
  pub built : IsPartialProduct na nb wa wb sa sb m rows next wins
  pub within : row < length rows
  pub made : length wins ≡ row + 1
  pub at : length next ≡ row * 256 + byte
  pub are : pair_at rows row ≡ p

-- the rows and cells are those of the product of these two tables
abbrev pub IsPartialProductOf : Table → Table → ℕ → List (ℕ × ℕ) → List ℕ → List (Option ℕ) → Type 0
IsPartialProductOf a b m = IsPartialProduct (next_rows a) (next_rows b) a.wins.items b.wins.items a.start b.start m

-- the row of the pair p has its cells below this byte, in the product of these two tables
abbrev pub IsPairingOf : Table → Table → ℕ → List (ℕ × ℕ) → List ℕ → List (Option ℕ) → ℕ → ℕ → ℕ × ℕ → Type 0
IsPairingOf a b m = IsPairing (next_rows a) (next_rows b) a.wins.items b.wins.items a.start b.start m

-- in the product in the making the rows below n have all their cells, and no others have any
pub record IsProductBelow (a b : Table) (m : ℕ) (g : ProductBuilder) (n : ℕ) : Type 0 where
  -- rows and cells are those of the two tables, where the second's patterns count from m
  pub built : IsPartialProductOf a b m g.rows.items g.next.items g.wins.items
  -- the first rows of the two are noted
  pub first : (g.first.0 ≡ a.start) × (g.first.1 ≡ b.start)
  -- there are so many rows
  pub rows : n ≤ vec_len g.rows
  -- for each of them it is noted which pattern matches there
  pub wins : vec_len g.wins ≡ n
  -- and each has a cell for each byte
  pub cells : vec_len g.next ≡ n * 256
