use Rattle.std.proofs.Common.{◌≡◌, ◌-◌, ◌+◌, ◌<◌, ◌≤◌, ℕ, length, get_or}
use Rattle.lrlex_table.specs.Tables.{AreRising}
use Rattle.lrlex_table.proofs.merged_tables.numbers.Given as goal

abbrev pub invariant-numbers : goal.invariant-numbers
invariant-numbers l =
    (l.fn.from ≤ l.number)
    × AreRising l.fn.from l.number l.numbers.items
    × (length l.numbers.items ≡ l.number - l.fn.from)
    × ((i : ℕ) → i < l.number - l.fn.from → get_or l.numbers.items i 0 ≡ l.fn.from + i)
