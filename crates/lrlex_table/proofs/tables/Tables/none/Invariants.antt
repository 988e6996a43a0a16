use Rattle.std.proofs.Common.{◌≡◌, ℕ, ◌<◌, true}
use Rattle.lrlex_table.specs.Tables.{is_among, AreRising}
use Rattle.lrlex_table.proofs.tables.Tables.none.Given as goal

abbrev pub invariant-patterns : goal.invariant-patterns
invariant-patterns l =
    AreRising 0 l.place l.asked.items × ((k : ℕ) → k < l.place → is_among l.asked.items k ≡ true)
