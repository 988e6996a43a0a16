-- Where a row of pieces has come to in a text.
use Rattle.std.specs.Prelude.{ℕ, ◌≡◌, ◌+◌, ◌<◌, ◌≤◌, false, Bool, List, length, slice_index, take, IsUtf8, if◌then◌else◌}
use Rattle.std.specs.List.{after_last}
use Rattle.lrlex_base.specs.Places.{is_newline}
use Rattle.lrlex_positions.specs.Lines.{with_newlines}
use Rattle.lrlex_positions.specs.Positions.{position_of}
use Rattle.lrlex_positions.specs.declared.encoding.PositionEncoding.{PositionEncoding}
use Rattle.lrlex_lsp.specs.Tokens.{ends_line, Token, AreTold}
use Rattle.lrlex_lsp.specs.declared.tokens.Row.{Row}

-- The position of this byte of the text, where it isn't U+000A. Behind U+000A the position is the same where U+000D has ended
-- the line already, and else the next line's begin.
pub record IsAt (encoding : PositionEncoding) (text : List ℕ) (at : ℕ) (place : ℕ × ℕ) (returned : Bool) : Type 0 where
  pub within : at ≤ length text
  pub line : IsUtf8 (after_last is_newline (take at (with_newlines text)))
  pub other : ¬ (slice_index text at ≡ 10) → place ≡ position_of encoding text at
  pub newline : slice_index text at ≡ 10 → position_of encoding text (at + 1) ≡ (if returned then place else (place.0 + 1, 0))

-- the row is at this byte of the text
abbrev pub IsRowAt : (text : List ℕ) → (at : ℕ) → Row → Type 0
IsRowAt text at row = IsAt row.encoding text at row.place row.returned

-- none of these bytes ends a line
abbrev pub IsPartOfLine : List ℕ → Type 0
IsPartOfLine part = (i : ℕ) → i < length part → ends_line (slice_index part i) ≡ false

-- it has gone up to this byte, with these tokens
pub record GoesTo (text : List ℕ) (to : ℕ) (tokens : List Token) (old new : Row) : Type 0 where
  pub encoding : new.encoding ≡ old.encoding
  pub told : AreTold tokens old.last new.last old.tokens.numbers.items new.tokens.numbers.items
  pub place : IsRowAt text to new
