-- The lexemes that a scanner finds.
use Rattle.std.specs.Prelude.{◌≡◌, ℕ, ◌-◌, List, [], ◌++◌, length, Bool, true, false, unwrap_or}
use Rattle.lrlex_base.specs.Spans.{span_start, span_end}
use Rattle.lrlex.specs.Scanner.{Scanned, top_state}
use Rattle.lrlex.specs.Tiling.{Item, lexeme_of}
use Rattle.lrlex.specs.declared.lexing.scanner.ScannedTile.{ScannedTile}
use Rattle.lrlex.specs.declared.lexing.scanner.ScanEnd.{ScanEnd}
use Rattle.lrlex.specs.declared.lexing.scanner.ScanEnd.TheVariants.{Done, NoMatch, NoId, NoTarget, NoState}
use Rattle.lrlex_handles.specs.Buffers.{filled, put_token}
use Rattle.lrlex_handles.specs.declared.structs.Lexed.{Lexed}
use Rattle.lrlex_handles.specs.declared.structs.Token.{Token}

-- the lexeme of a tile, if it gives one
abbrev pub lexeme_by : ScannedTile ℕ → List Item
lexeme_by x = lexeme_of x.id (span_start x.span) (span_end x.span - span_start x.span)

-- the lexeme that is found with an end: that of the tile whose target is no state
abbrev pub last_lexemes : ScanEnd ℕ → List Item
last_lexemes Done = []
last_lexemes (NoMatch q) = []
last_lexemes (NoId k) = []
last_lexemes (NoTarget x) = lexeme_by x
last_lexemes NoState = []

-- so many lexemes are found, and written as far as there is room
pub record AreCounted (found : List Item) (room tokens : List Token) (count : ℕ) : Type 0 where
  pub tokens-are : tokens ≡ filled put_token found room
  pub count-is : count ≡ length found

-- whether lexing stops at an error at this end
abbrev pub is_stop : ScanEnd ℕ → Bool
is_stop Done = false
is_stop (NoMatch q) = true
is_stop (NoId k) = true
is_stop (NoTarget x) = true
is_stop NoState = true

-- whether that error is that no rule matches
abbrev pub is_unmatched : ScanEnd ℕ → Bool
is_unmatched Done = false
is_unmatched (NoMatch q) = true
is_unmatched (NoId k) = false
is_unmatched (NoTarget x) = false
is_unmatched NoState = false

-- how lexing went whose scanner stands there and comes to this end behind n lexemes
abbrev pub ended_by : ℕ → Scanned → ScanEnd ℕ → Lexed
ended_by n s e = record { count = n; end = s.place; state = unwrap_or (top_state s.stack) 0; stopped = is_stop e; unmatched = is_unmatched e }

-- the tile's lexeme, if it gives one, is counted behind all others, and written where there is room
abbrev pub HasPut : ScannedTile ℕ → (old new : List Token) → (count count' : ℕ) → Type 0
HasPut x old new count count' = (found : List Item) (room : List Token) → AreCounted found room old count → AreCounted (found ++ lexeme_by x) room new count'

-- the lexeme that is found with the end is written, and so lexing went
abbrev pub HasFinished : Scanned → ScanEnd ℕ → (old new : List Token) → (count : ℕ) → Lexed → Type 0
HasFinished s e old new count lexed = (found : List Item) (room : List Token) → AreCounted found room old count
    → (new ≡ filled put_token (found ++ last_lexemes e) room) × (lexed ≡ ended_by (length (found ++ last_lexemes e)) s e)
