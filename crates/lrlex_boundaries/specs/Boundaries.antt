-- What a run keeps of its boundaries.
use Rattle.std.specs.Prelude.{ℕ, ◌-◌, max, List, [], ◌∷◌, length, get_or}
use Rattle.lrlex_boundaries.specs.Entries.{plain, entry_count}

-- a boundary's place, and the entries of its stack
pub record Boundary : Type 0 where
  pub place : ℕ
  pub entries : List (ℕ × ℕ)

-- what stands for a boundary past the last
abbrev pub no_boundary : Boundary
no_boundary = record { place = 0; entries = [] }

abbrev pub boundary_at : List Boundary → ℕ → Boundary
boundary_at ms k = get_or ms k no_boundary

-- the entries at the last boundary
abbrev pub last_entries : List Boundary → List (ℕ × ℕ)
last_entries ms = (boundary_at ms (length ms - 1)).entries

-- the place with its plain stack
abbrev pub place_and_stack : Boundary → ℕ × List ℕ
place_and_stack m = (m.place, plain m.entries)

-- the greatest number of entries
abbrev pub most_entries : List Boundary → ℕ
most_entries [] = 0
most_entries (m ∷ ms) = max (length m.entries) (most_entries ms)

-- the greatest number of entries of plain stacks
abbrev pub most_entry_count : List (ℕ × List ℕ) → ℕ
most_entry_count [] = 0
most_entry_count (b ∷ bs) = max (entry_count b.1) (most_entry_count bs)
