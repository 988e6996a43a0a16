use Rattle.std.proofs.Common.{◌≡◌, ℕ, List, take, ◌<◌, ◌≤◌, true, false, IfSome}
use Rattle.std.specs.HashMap.{hash_map_len}
use Rattle.regex.specs.Patterns.{Re}
use Rattle.lrlex_table.specs.DeadEnds.{more_of, HasNoneFrom}
use Rattle.lrlex_table.specs.Tables.{is_tabled, AreTablesOf, IsTableScanOf, len_of}
use Rattle.lrlex_table.specs.Work.{cells, IsLook}
use Rattle.lrlex_table.proofs.dead_ends.DeadEnds.winner_of_parts_at.Given as goal

abbrev pub invariant-parts : goal.invariant-parts
invariant-parts l =
    ((ps : List Re) → AreTablesOf ps l.tables → IsTableScanOf ps (is_tabled (take l.at l.tables.parts.items)) l.rest l.scan)
    × IfSome l.scan.winner (λ t. t.len < l.scan.reach) × (l.self.lists ≡ l.initial.self.lists) × (l.self.text ≡ l.initial.self.text)
    × ((l.self.looked ≡ l.initial.self.looked) × (l.self.ahead ≡ l.initial.self.ahead) × (l.self.chain ≡ l.initial.self.chain))
    × (l.initial.self.forgot ≡ true → l.self.forgot ≡ true)
    × ((ps : List Re) → AreTablesOf ps l.tables → l.self.forgot ≡ false →
    IsLook 2 l.at (len_of l.scan.winner) l.scan.looked (hash_map_len l.initial.self.known) (hash_map_len l.self.known))
    × ((ps : List Re) → AreTablesOf ps l.tables → l.self.forgot ≡ false → ((part : ℕ) → HasNoneFrom l.initial.self.known l.list part l.place) →
    IsLook 1 l.at (len_of l.scan.winner) (cells (take l.at l.tables.parts.items) l.rest) (hash_map_len l.initial.self.known) (hash_map_len l.self.known))
    × ((part row here : ℕ) → l.at ≤ part → more_of l.self.known l.list part row here ≡ more_of l.initial.self.known l.list part row here)
