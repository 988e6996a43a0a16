use Rattle.std.proofs.Common.{◌≡◌, ◌≢◌, ℕ, ◌+◌, ◌%◌, ◌<◌, ◌≤◌, true, false, None, length, take}
use Rattle.std.specs.HashMap.{hash_map_len}
use Rattle.lrlex_table.specs.Table.{next_rows}
use Rattle.lrlex_table.specs.Reach.{row_after}
use Rattle.lrlex_table.specs.DeadEnds.{more_of}
use Rattle.lrlex_table.proofs.KnownLemmas.{IsPaid}
use Rattle.lrlex_table.proofs.dead_ends.DeadEnds.keep.Given as goal

abbrev pub invariant-bytes : goal.invariant-bytes
invariant-bytes l =
    (l.row ≡ row_after (next_rows l.table) l.table.start (take l.at l.rest)) × (l.self.lists ≡ l.initial.self.lists) × (l.self.text ≡ l.initial.self.text)
    × ((l.self.looked ≡ l.initial.self.looked) × (l.self.ahead ≡ l.initial.self.ahead) × (l.self.chain ≡ l.initial.self.chain))
    × (l.initial.self.forgot ≡ true → l.self.forgot ≡ true)
    × ((i : ℕ) → l.at ≤ i → i < l.looked → i < length l.rest → (l.place + i) % 64 ≡ 0 →
    more_of l.self.known l.list l.part (row_after (next_rows l.table) l.table.start (take i l.rest)) (l.place + i) ≡ None)
    × ((lists parts row here : ℕ) → parts ≢ l.part → more_of l.self.known lists parts row here ≡ more_of l.initial.self.known lists parts row here)
    × (l.self.forgot ≡ false → IsPaid l.place l.at l.walk.len (hash_map_len l.initial.self.known) (hash_map_len l.self.known))
    × (l.row < length l.table.wins.items)
