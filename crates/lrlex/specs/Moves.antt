-- What moves where after an edit: items, and with the words of the crate below, passed on for callers, boundaries.
use Rattle.std.specs.Prelude.{ℕ, ◌+◌, ◌^◌, ◌<◌, ◌≤◌, Bool, List, [], ◌∷◌, nat_lt, if◌then◌else◌}
pub use Rattle.lrlex_boundaries.specs.Moves.{moved_boundary, IsMovableBoundary, Meets, AreSorted}
use Rattle.lrlex_rules.specs.Tiling.{Item, Lexeme, Error}

-- the item stands from p on, and fits the numbers once what stood at p stands at q
abbrev pub IsMovable : ℕ → ℕ → Item → Type 0
IsMovable p q (Lexeme id start len faulty) = (p ≤ start) × ((start + q) < p + 2 ^ 64) × (start + q + len < p + 2 ^ 64)
IsMovable p q (Error start end state) =
    (p ≤ start) × ((start + q) < p + 2 ^ 64) × (p ≤ end) × ((end + q) < p + 2 ^ 64)

-- whether the item begins before the place
abbrev pub begins_before : ℕ → Item → Bool
begins_before p (Lexeme id start len faulty) = nat_lt start p
begins_before p (Error start end state) = nat_lt start p

-- the items from the first one on that doesn't begin before the place
abbrev pub items_from : ℕ → List Item → List Item
items_from p [] = []
items_from p (i ∷ rest) = if begins_before p i then items_from p rest else i ∷ rest
