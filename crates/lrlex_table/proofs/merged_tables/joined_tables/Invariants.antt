use Rattle.std.proofs.Common.{◌≡◌, ◌+◌, ◌≤◌, ℕ, List, ◌++◌, length, false}
use Rattle.std.specs.Vec.Iter.{into_iter_items, into_iter_len}
use Rattle.regex.specs.Patterns.{Re}
use Rattle.lrlex_table.specs.Tables.{rows_of, is_tabled, AreParts}
use Rattle.lrlex_table.proofs.PartLemmas.{Neither}
use Rattle.lrlex_table.proofs.merged_tables.joined_tables.Given as goal

abbrev pub invariant-parts : goal.invariant-parts
invariant-parts l =
    (l.asked ≡ l.fn.left.asked)
    × (l.yielded ++ into_iter_items l.part-iterator ≡ into_iter_items l.initial.part-iterator)
    × (into_iter_len l.part-iterator ≡ length (into_iter_items l.part-iterator))
    × ((ps : List Re) (lo hi : ℕ) → AreParts ps lo hi l.fn.left.parts.items → AreParts ps lo hi l.fn.right.parts.items → AreParts ps lo hi l.parts.items)
    × ((k : ℕ) → is_tabled l.parts.items k ≡ false → Neither l.fn.left.parts.items l.yielded k)
    × (rows_of l.parts.items + l.budget.rows ≤ rows_of l.fn.left.parts.items + rows_of l.yielded + l.fn.budget.rows)
