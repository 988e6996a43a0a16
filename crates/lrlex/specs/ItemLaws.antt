-- What holds of the items of each run.
use Rattle.std.specs.Prelude.{◌≡◌, ℕ, ◌+◌, ◌<◌, ◌≤◌, Bool, true, false, IsSome, IsNone, IfSome, List, [], ◌∷◌, ◌++◌, All, Any, take, drop, length, Some, slice_get, IsCharBoundary, IsUtf8}
use Rattle.std.specs.List.{AllPairs, AllAdjacentBelow, concat, list_any, sum_by}
use Rattle.lrlex_rules.specs.Definition.{Definition, Rule}
use Rattle.lrlex_rules.specs.Active.{rule_at}
use Rattle.lrlex_boundaries.specs.Boundaries.{Boundary}
use Rattle.lrlex.specs.Reach.{IsLexed}
use Rattle.lrlex_rules.specs.Tiling.{Tile, Item, Lexeme, Error}

abbrev pub is_error : Item → Bool
is_error (Lexeme id start len faulty) = false
is_error (Error start end state) = true

-- a lexeme has bytes, and an error's span is empty
abbrev pub HasItsLength : Item → Type 0
HasItsLength (Lexeme id start len faulty) = 0 < len
HasItsLength (Error start end state) = start ≡ end

-- both ends of its span are in the text and on character boundaries
abbrev pub FitsText : List ℕ → Item → Type 0
FitsText text (Lexeme id start len faulty) = IsCharBoundary text start × IsCharBoundary text (start + len)
FitsText text (Error start end state) = IsCharBoundary text start × IsCharBoundary text end

-- a lexeme's id is that of a named rule
abbrev pub HasNamedRule : Definition → Item → Type 0
HasNamedRule d (Lexeme id start len faulty) = Any (λ (r : Rule). IsSome r.name × (r.id ≡ Some id)) d.rules
HasNamedRule d (Error start end state) = Unit {0}

-- a lexeme ends where a later one begins, or before
abbrev pub EndsBefore : Item → Item → Type 0
EndsBefore (Lexeme id start len faulty) (Lexeme next_id next next_len next_faulty) = start + len ≤ next
EndsBefore _ _ = Unit {0}

-- what has an item behind it is a lexeme; so an error is last, and there is at most one
abbrev pub GoesOn : Item → Item → Type 0
GoesOn earlier later = is_error earlier ≡ false

-- where the last lexeme ends, or p where there is none
abbrev pub last_end : ℕ → List Item → ℕ
last_end p [] = p
last_end p (Lexeme id start len faulty ∷ xs) = last_end (start + len) xs
last_end p (Error start end state ∷ xs) = last_end p xs

-- the texts of tiles, each behind the one before
abbrev pub tile_texts : List ℕ → List Tile → List (List ℕ)
tile_texts text [] = []
tile_texts text (t ∷ ts) = take t.len text ∷ tile_texts (drop t.len text) ts

-- how many bytes tiles take
abbrev pub total_len : List Tile → ℕ
total_len ts = sum_by (λ (t : Tile). t.len) ts

-- the text from one place to another is that of tiles of unnamed rules
pub record IsUnnamed (d : Definition) (cut : List Tile) (from to : ℕ) : Type 0 where
  pub before : List Tile
  pub between : List Tile
  pub after : List Tile
  pub joined : cut ≡ before ++ (between ++ after)
  pub begins : from ≡ total_len before
  pub ends : to ≡ from + total_len between
  pub unnamed : All (λ (t : Tile). IsNone (rule_at d t.rule).name) between

-- so it is between a lexeme and the next, and between a lexeme and an error behind it. Where a rule's target is no state, the
-- lexeme of that rule begins at the error, and so doesn't end before it.
abbrev pub IsUnnamedBetween : Definition → List Tile → Item → Item → Type 0
IsUnnamedBetween d cut (Lexeme id start len faulty) (Lexeme next_id next next_len next_faulty) = IsUnnamed d cut (start + len) next
IsUnnamedBetween d cut (Lexeme id start len faulty) (Error at end state) = start + len ≤ at → IsUnnamed d cut (start + len) at
IsUnnamedBetween d cut _ _ = Unit {0}

-- and before the first of them
abbrev pub IsUnnamedBefore : Definition → List Tile → Item → Type 0
IsUnnamedBefore d cut (Lexeme id start len faulty) = IsUnnamed d cut 0 start
IsUnnamedBefore d cut (Error at end state) = IsUnnamed d cut 0 at

-- an error stands there
abbrev pub StopsAt : ℕ → Item → Type 0
StopsAt place (Lexeme id start len faulty) = Unit {0}
StopsAt place (Error at end state) = at ≡ place

-- What holds of the items of each run. A lexeme takes bytes of the text, on character boundaries, and has the id of a named
-- rule; lexemes stand in order and apart. At most one item is an error: it is the last, and its span is empty.
pub record AreItemsOf (d : Definition) (text : List ℕ) (found : List Item) : Type 0 where
  pub lengths : All HasItsLength found
  pub fit : IsUtf8 text → All (FitsText text) found
  pub named : All (HasNamedRule d) found
  pub in_order : AllPairs EndsBefore found
  pub error_last : AllPairs GoesOn found

-- What holds of items with the tiles that gave them: what lies before the first item, and between a lexeme and the next item,
-- is text of unnamed rules' tiles. The tiles joined are the text up to their end, and an error stands there. Without an error
-- they are the whole text, and what lies behind the last lexeme is text of such tiles too.
pub record CoverText (d : Definition) (text : List ℕ) (found : List Item) (cut : List Tile) : Type 0 where
  pub before : IfSome (slice_get found 0) (IsUnnamedBefore d cut)
  pub between : AllAdjacentBelow (IsUnnamedBetween d cut) found (length found)
  pub behind : list_any is_error found ≡ false → IsUnnamed d cut (last_end 0 found) (length text)
  pub up_to : concat (tile_texts text cut) ≡ take (total_len cut) text
  pub stop : All (StopsAt (total_len cut)) found
  pub joined : list_any is_error found ≡ false → concat (tile_texts text cut) ≡ text
  pub sum : list_any is_error found ≡ false → total_len cut ≡ length text

-- both, of what a run found
pub record HaveLaws (d : Definition) (text : List ℕ) (found : List Item) (bounds : List Boundary) : Type 0 where
  pub items : AreItemsOf d text found
  pub tiles : (h : IsLexed d text found bounds) → CoverText d text found h.cut
