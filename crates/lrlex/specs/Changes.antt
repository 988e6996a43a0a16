-- What an edit changed in the items of a run, and in its tiles, of which pieces are made.
use Rattle.std.specs.Prelude.{◌≡◌, ℕ, ◌+◌, ◌≤◌, List, length, map, take, drop}
use Rattle.lrlex_base.specs.Spans.{Span}
use Rattle.lrlex_rules.specs.Definition.{Definition}
use Rattle.lrlex_boundaries.specs.Boundaries.{Boundary}
use Rattle.lrlex.specs.Reach.{IsLexed}
use Rattle.lrlex_rules.specs.Tiling.{Item, rebased}
use Rattle.lrlex.specs.declared.editing.changes.Change.{Change}
use Rattle.lrlex.specs.declared.editing.changes.Changed.{Changed}

abbrev pub change : (first removed inserted : ℕ) → Change
change first removed inserted = record { first = first; removed = removed; inserted = inserted }

-- nothing went, and all came
abbrev pub all_new : (items pieces : ℕ) → Changed
all_new items pieces = record { items = change 0 0 items; pieces = change 0 0 pieces }

-- nothing went and nothing came, where a run has so many items and no piece
abbrev pub none_of : (items : ℕ) → Changed
none_of items = record { items = change items 0 0; pieces = change 0 0 0 }

-- The change makes the new list of the old: what is before it is the same, and what is after it is the same, moved.
pub record IsChange {A : Type 0} (move : A → A) (c : Change) (old new : List A) : Type 0 where
  pub before : take c.first new ≡ take c.first old
  pub after : drop (c.first + c.inserted) new ≡ map move (drop (c.first + c.removed) old)
  pub in_old : c.first + c.removed ≤ length old
  pub in_new : c.first + c.inserted ≤ length new

-- the item, once the end of the bytes that went is the end of those that came
abbrev pub moved_past : (removed : Span) (put : List ℕ) → Item → Item
moved_past removed put = rebased removed.end (removed.start + length put)

-- The change of an edit in the items, and in the tiles, each a rule and a length. It puts in as many tiles as were cut anew.
pub record HasChanged (d : Definition) (old new : List ℕ) (removed : Span) (put : List ℕ) (found found' : List Item) (bounds bounds' : List Boundary) (c : Changed) (recut : ℕ) : Type 0 where
  pub items : IsChange (moved_past removed put) c.items found found'
  pub pieces : (h : IsLexed d old found bounds) (h' : IsLexed d new found' bounds') → IsChange (λ t. t) c.pieces h.cut h'.cut
  pub came : c.pieces.inserted ≡ recut
