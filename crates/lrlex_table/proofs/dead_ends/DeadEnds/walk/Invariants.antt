use Rattle.std.proofs.Common.{◌≡◌, ℕ, ◌+◌, ◌%◌, ◌<◌, ◌≤◌, false, length, take, None}
use Rattle.lrlex_table.specs.Table.{next_rows}
use Rattle.lrlex_table.specs.Reach.{row_after}
use Rattle.lrlex_table.specs.DeadEnds.{matches_after, more_of}
use Rattle.lrlex_table.proofs.WalkLemmas.{Stands}
use Rattle.lrlex_table.proofs.ReachLemmas.{Walked}
use Rattle.lrlex_table.proofs.dead_ends.DeadEnds.walk.Given as goal

abbrev pub invariant-bytes : goal.invariant-bytes
invariant-bytes l =
    Stands (next_rows l.table) l.table.wins.items l.table.start l.rest l.at l.row l.len l.last × (l.row < length l.table.wins.items) × (l.len ≤ l.at)
    × Walked l.table l.rest l.at l.row
    × ((i : ℕ) → l.len < i → i ≤ l.at → matches_after l.table l.table.start (take i l.rest) ≡ false)
    × ((i : ℕ) → i < l.at → (l.place + i) % 64 ≡ 0 → more_of l.self.known l.list l.part (row_after (next_rows l.table) l.table.start (take i l.rest)) (l.place + i) ≡ None)
