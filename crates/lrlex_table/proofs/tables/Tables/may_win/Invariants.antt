use Rattle.std.proofs.Common.{◌≡◌, List, length}
use Rattle.regex.specs.Patterns.{Re}
use Rattle.lrlex_table.specs.Tables.{AreTablesOf}
use Rattle.lrlex_table.specs.Never.{NoneOfWins, AreStruck}
use Rattle.lrlex_table.proofs.tables.Tables.may_win.Given as goal

abbrev pub invariant-parts : goal.invariant-parts
invariant-parts l =
    ((ps : List Re) → AreTablesOf ps l.self → NoneOfWins ps l.may_win.items)
    × AreStruck l.self.parts.items l.may_win.items l.at
    × (length l.may_win.items ≡ l.patterns)
