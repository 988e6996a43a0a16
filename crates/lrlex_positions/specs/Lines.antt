-- Lines as the Language Server Protocol ends them: by U+000A, by U+000D and U+000A, or by U+000D alone.
use Rattle.std.specs.Prelude.{ℕ, ◌+◌, ◌-◌, ◌<◌, ◌≤◌, ◌≡◌, ◌⊎◌, ◌==◌, ◌&&◌, Bool, not, List, [], ◌∷◌, length, take, drop, count_by, slice_index, if◌then◌else◌, IsCharBoundary}
use Rattle.std.specs.List.{after_last, position_or_len}
use Rattle.lrlex_base.specs.Places.{is_newline, Breaks, AreBreaksOf}
use Rattle.lrlex_positions.specs.declared.lines.Lines.{Lines}
use Rattle.lrlex_positions.specs.declared.lines.Lines.TheVariants.{OfNewlines, Kept}

-- U+000D ends a line alone where no U+000A follows it
abbrev pub is_lone_return : ℕ → List ℕ → Bool
is_lone_return b rest = b == 13 && not (is_newline (slice_index rest 0))

-- the text with U+000A for each of these, so that its lines are those of the protocol
abbrev pub with_newlines : List ℕ → List ℕ
with_newlines [] = []
with_newlines (b ∷ bs) = (if is_lone_return b bs then 10 else b) ∷ with_newlines bs

-- between U+000D and U+000A, which end one line
abbrev pub IsInBreak : List ℕ → ℕ → Type 0
IsInBreak text at = (slice_index text (at - 1) ≡ 13) × (slice_index text at ≡ 10)

-- a place that a position can tell: between two characters, and not inside the end of a line
abbrev pub HasPosition : List ℕ → ℕ → Type 0
HasPosition text at = IsCharBoundary text at × ¬ (IsInBreak text at)

-- the greatest such place up to the number
pub record IsNearestPlace (text : List ℕ) (n at : ℕ) : Type 0 where
  pub up_to : at ≤ n
  pub place : HasPosition text at
  pub greatest : (i : ℕ) → at < i → i ≤ n → ¬ (HasPosition text i)

-- ---- how lines are found

-- the lines that end before the place, and where the last of these ends
pub record IsLineOf (text : List ℕ) (at number begin : ℕ) : Type 0 where
  pub counted : number ≡ count_by is_newline (take at (with_newlines text))
  pub front : begin + length (after_last is_newline (take at (with_newlines text))) ≡ at

-- the line of the number begins at b, and the next U+000A that ends a line, or else the text's end, is at e
pub record IsLine (text : List ℕ) (number b e : ℕ) : Type 0 where
  pub counted : count_by is_newline (take b (with_newlines text)) ≡ number
  pub begins : length (after_last is_newline (take b (with_newlines text))) ≡ 0
  pub end : e ≡ b + position_or_len is_newline (drop b (with_newlines text))
  pub within : b ≤ length text

-- where a line from b ends, of which the next U+000A or the text's end is at e: before a return in front of that
abbrev pub IsLineEnd : List ℕ → ℕ → ℕ → ℕ → Type 0
IsLineEnd text b e end = ((end ≡ e) × (b < e → ¬ (slice_index text (e - 1) ≡ 13))) ⊎ ((end + 1 ≡ e) × (b < e) × (slice_index text end ≡ 13))

-- what is kept of the lines of a text beside a newline cache: where that tells all, no U+000D ends a line alone, and a cache of their
-- own is that of the text with U+000A for each U+000D that does
abbrev pub AreLinesOf : List ℕ → Lines → Type 0
AreLinesOf text lines =
    (lines ≡ OfNewlines → with_newlines text ≡ text)
    × ((breaks : Breaks) → lines ≡ Kept breaks → AreBreaksOf (with_newlines text) breaks)
