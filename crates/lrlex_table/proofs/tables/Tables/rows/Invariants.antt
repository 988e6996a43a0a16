use Rattle.std.proofs.Common.{◌≡◌, ◌<◌, ◌^◌, take}
use Rattle.lrlex_table.specs.Tables.{rows_of}
use Rattle.lrlex_table.proofs.tables.Tables.rows.Given as goal

abbrev pub invariant-parts : goal.invariant-parts
invariant-parts l =
    rows_of l.self.parts.items < 2 ^ 64 → l.rows ≡ rows_of (take l.at l.self.parts.items)
