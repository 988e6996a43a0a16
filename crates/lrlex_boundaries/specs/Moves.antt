-- What boundaries move where after an edit.
use Rattle.std.specs.Prelude.{◌≡◌, ℕ, ◌+◌, ◌-◌, ◌^◌, ◌<◌, ◌≤◌, All, List, length, Some, slice_get}
use Rattle.lrlex_boundaries.specs.Entries.{plain, AreEntries}
use Rattle.lrlex_boundaries.specs.Boundaries.{Boundary, boundary_at}

-- the boundary once what stood at p stands at q
abbrev pub moved_boundary : ℕ → ℕ → Boundary → Boundary
moved_boundary p q m = record { place = (m.place + q) - p; entries = m.entries }

-- the boundary fits the numbers once it is moved
pub record IsMovableBoundary (p q : ℕ) (m : Boundary) : Type 0 where
  pub place_from : p ≤ m.place
  pub place_fits : m.place + q < p + 2 ^ 64

-- After the bytes from low to high gave way to so many others, this boundary of the new text meets one of the old:
-- it stands past them, and an old one with an equal stack stands where it was.
pub record Meets (old new : List Boundary) (low high len k : ℕ) : Type 0 where
  pub q : ℕ
  pub entries : List (ℕ × ℕ)
  pub at : slice_get new k ≡ Some (record { place = q; entries = entries })
  pub past : low + len ≤ q
  pub j : ℕ
  pub m : Boundary
  pub there : slice_get old j ≡ Some m
  pub back : m.place + (low + len) ≡ q + high
  pub stack : plain m.entries ≡ plain entries

-- places rise, and each stack is of entries
pub record AreSorted (old : List Boundary) : Type 0 where
  pub rising : (i j : ℕ) → i < j → j < length old → (boundary_at old i).place < (boundary_at old j).place
  pub entries : All (λ m. AreEntries m.entries) old
