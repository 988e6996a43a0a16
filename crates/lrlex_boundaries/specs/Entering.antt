-- Which tile entered the start state in which lexing ended.
use Rattle.std.specs.Prelude.{◌≡◌, ℕ, ◌+◌, ◌-◌, ◌<◌, ◌≤◌, List, length, Option, Some, None, slice_get}
use Rattle.lrlex_boundaries.specs.Boundaries.{Boundary, boundary_at, last_entries}

-- an entry, a count and a state, is there still, or with more of its neighbours
abbrev pub Keeps : (entry : ℕ × ℕ) → (there : Option (ℕ × ℕ)) → Type 0
Keeps entry None = ⊥
Keeps entry (Some e) = (e.1 ≡ entry.1) × (entry.0 ≤ e.0)

-- where the entry on top at the end stands, from the bottom
abbrev pub end_at : List Boundary → ℕ
end_at bounds = length (last_entries bounds) - 1

-- that entry
abbrev pub end_entry : List Boundary → Option (ℕ × ℕ)
end_entry bounds = slice_get (last_entries bounds) (end_at bounds)

-- another stack has it there
abbrev pub KeepsTop : (top there : Option (ℕ × ℕ)) → Type 0
KeepsTop None there = Unit {0}
KeepsTop (Some entry) there = Keeps entry there

-- the stack of boundary k has it
abbrev pub KeepsEnd : List Boundary → ℕ → Type 0
KeepsEnd bounds k = KeepsTop (end_entry bounds) (slice_get (boundary_at bounds k).entries (end_at bounds))

-- so have the stacks of all
abbrev pub AllKeepEnd : List Boundary → Type 0
AllKeepEnd bounds = (k : ℕ) → k < length bounds → KeepsEnd bounds k

-- the last tile before which the stack lacks it
pub record IsEntering (bounds : List Boundary) (k : ℕ) : Type 0 where
  pub within : k + 1 < length bounds
  pub before : ¬ (KeepsEnd bounds k)
  pub behind : (j : ℕ) → k < j → j < length bounds → KeepsEnd bounds j
