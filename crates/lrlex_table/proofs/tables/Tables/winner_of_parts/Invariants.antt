use Rattle.std.proofs.Common.{◌≡◌, ◌*◌, ◌^◌, List, take, ◌<◌, ◌≤◌, IfSome}
use Rattle.regex.specs.Patterns.{Re}
use Rattle.lrlex_table.specs.Tables.{is_tabled, AreTablesOf, IsTableScanOf}
use Rattle.lrlex_table.specs.Work.{cells}
use Rattle.lrlex_table.proofs.tables.Tables.winner_of_parts.Given as goal

abbrev pub invariant-parts : goal.invariant-parts
invariant-parts l =
    ((ps : List Re) → AreTablesOf ps l.self → IsTableScanOf ps (is_tabled (take l.at l.self.parts.items)) l.text l.scan)
    × IfSome l.scan.winner (λ t. t.len < l.scan.reach)
    × (l.scan.looked ≤ cells (take l.at l.self.parts.items) l.text)
    × (cells (take l.at l.self.parts.items) l.text < 2 ^ 64 → l.scan.looked ≡ cells (take l.at l.self.parts.items) l.text)
    × (cells (take l.at l.self.parts.items) l.text ≤ l.at * l.scan.reach)
