-- How much of a table walks look at.
use Rattle.std.specs.Prelude.{ℕ, suc, ◌+◌, ◌*◌, ◌≤◌, List, [], ◌∷◌, Some, ◌==◌, if◌then◌else◌}
use Rattle.std.specs.List.{sum_by}
use Rattle.lrlex_table.specs.Table.{next_rows, next_of}
use Rattle.lrlex_table.specs.declared.table.Table.{Table}
use Rattle.lrlex_table.specs.declared.merged_tables.Part.{Part}

-- how many cells a walk from this row looks at, up to the first that is dead; the text's end counts as one
abbrev pub reach_from : List ℕ → ℕ → List ℕ → ℕ
reach_from next r [] = 1
reach_from next r (b ∷ bs) = suc (if next_of next r (Some b) == 0 then 0 else reach_from next (next_of next r (Some b)) bs)

-- how many a walk through the table looks at
abbrev pub reach_of : Table → List ℕ → ℕ
reach_of t text = reach_from (next_rows t) t.start text

-- how many walks through each of the tables look at
abbrev pub cells : List Part → List ℕ → ℕ
cells parts text = sum_by (λ p. reach_of p.table text) parts

-- A look at so many cells, before which so many dead ends were known, and now are more. It is at most `times` times the winner's bytes
-- and 129 for each table, and 64 more for each new dead end.
abbrev pub IsLook : (times tables len looked old new : ℕ) → Type 0
IsLook times tables len looked old new =
    (old ≤ new) × (looked + times * (64 * old) ≤ times * (tables * (len + 129)) + times * (64 * new))
