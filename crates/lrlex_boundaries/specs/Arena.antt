-- What the boundaries of the program say.
use Rattle.std.specs.Prelude.{List}
use Rattle.lrlex_boundaries.specs.Boundaries.{Boundary}
use Rattle.lrlex_boundaries.specs.Ranges.{boundaries_from, AreInOrder}
use Rattle.lrlex_boundaries.specs.declared.boundaries.Boundaries.TheInside.{Inside}

abbrev pub boundaries_of : Inside → List Boundary
boundaries_of a = boundaries_from a.entries.items a.stretches.items 0 a.places.items

abbrev pub AreKept : Inside → Type 0
AreKept a = AreInOrder a.entries.items a.stretches.items a.places.items
