use Rattle.std.proofs.Common.{◌≡◌, take}
use Rattle.lrlex_boundaries.specs.Boundaries.{last_entries}
use Rattle.lrlex_boundaries.specs.Ranges.{AreBefore, no_stretch, last_stretch, entries_of}
use Rattle.lrlex_boundaries.proofs.boundaries.Boundaries.compacted.Given as goal

abbrev pub invariant-all : goal.invariant-all
invariant-all l = record {
  added : l.made ≡ take l.next l.self;
  last : last_entries l.made ≡ entries_of l.self-inside.entries.items (last_stretch no_stretch (take l.entered l.self-inside.stretches.items));
  before : AreBefore l.self-inside.stretches.items l.entered l.next;
}
