use Rattle.std.proofs.Common.{◌≡◌, ◌<◌, ℕ, IsSome}
use Rattle.lrlex_table.specs.Group.{table_in, start_in, all_starts}
use Rattle.lrlex_table.proofs.group.all_starts.Given as goal

abbrev pub invariant-places : goal.invariant-places
invariant-places l =
    (l.starts.items ≡ all_starts (start_in l.cache l.places) l.at)
    × ((k : ℕ) → k < l.at → IsSome (table_in l.cache l.places k))
