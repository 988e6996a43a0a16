use Rattle.std.proofs.Common.{◌≡◌, ◌≤◌, take}
use Rattle.std.specs.Str.{IsCharBoundary}
use Rattle.lrlex_base.specs.Places.{AreBreaksOf}
use Rattle.lrlex_base_tests.proofs.places.fed_by_characters.Given as goal

-- the cache means the front that was fed, which reaches the place between each two characters
abbrev pub invariant-loop-at : goal.invariant-loop-at
invariant-loop-at l = record {
  in_order : l.from ≤ l.at;
  front : IsCharBoundary l.text l.from;
  reached : IsCharBoundary l.text l.at → l.from ≡ l.at;
  fed : AreBreaksOf (take l.from l.text) l.cache;
}
