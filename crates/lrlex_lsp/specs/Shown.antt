-- What the pieces of a text are shown as, and the tokens that they have.
use Rattle.std.specs.Prelude.{ℕ, ◌≡◌, ◌+◌, ◌^◌, ◌<◌, List, [], ◌∷◌, ◌++◌, Option, Some, None, All, IsCharBoundary, IsUtf8, drop, length, map, option_map, slice_get}
use Rattle.lrlex.specs.Pieces.{joined}
use Rattle.lrlex.specs.declared.reading.pieces.Piece.{Piece}
use Rattle.lrlex_base.specs.Spans.{span_start}
use Rattle.lrlex_positions.specs.declared.encoding.PositionEncoding.{PositionEncoding}
use Rattle.lrlex_lsp.specs.Guesses.{guess_of}
use Rattle.lrlex_lsp.specs.Tokens.{AreReadable, Token, numbers_of, piece_tokens, tokens_read}
use Rattle.lrlex_lsp.specs.declared.guesses.Guess.{Guess}
use Rattle.lrlex_lsp.specs.declared.guesses.Guess.TheVariants.{Comment, Keyword, Number, Text, Name, Operator}
use Rattle.lrlex_lsp.specs.declared.languages.Language.{Language}
use Rattle.lrlex_lsp.specs.declared.languages.Shown.{Shown}
use Rattle.lrlex_lsp.specs.declared.languages.Shown.TheVariants.{As, Plain, Guessed}

-- the number of a guess's token type in the protocol (3.17)
abbrev pub type_of : Guess → ℕ
type_of Comment = 17
type_of Keyword = 15
type_of Number = 19
type_of Text = 18
type_of Name = 8
type_of Operator = 21

-- what a piece is shown as where its rule doesn't say
abbrev pub guessed_kind : Piece → Option ℕ
guessed_kind piece = option_map type_of (guess_of piece.name piece.text.now)

-- a rule that says how its pieces are shown is heeded; other pieces are guessed at
abbrev pub kind_by : Option Shown → Piece → Option ℕ
kind_by (Some (As number)) piece = Some number
kind_by (Some Plain) piece = None
kind_by (Some Guessed) piece = guessed_kind piece
kind_by None piece = guessed_kind piece

-- the language shows the piece as a token of this type, or plain
abbrev pub IsShownAs : Language → Piece → (kind : Option ℕ) → Type 0
IsShownAs language piece kind = kind ≡ kind_by (slice_get language.shown.items piece.rule) piece

-- where the first of these pieces begins
abbrev pub begin_of : List Piece → ℕ
begin_of [] = 0
begin_of (p ∷ ps) = span_start p.span

-- the pieces are a part of a text, one behind the other
pub record AreInRow (text : List ℕ) (pieces : List Piece) : Type 0 where
  pub utf8 : IsUtf8 text
  pub small : length text < 2 ^ 64
  pub rest : List ℕ
  pub text_is : drop (begin_of pieces) text ≡ joined pieces ++ rest
  pub begins : IsCharBoundary text (begin_of pieces)

-- the tokens of pieces in a row that begin at this byte of the text, with what each is shown as
abbrev pub shown_tokens : PositionEncoding → (text : List ℕ) → (at : ℕ) → List (Piece × Option ℕ) → List Token
shown_tokens encoding text at [] = []
shown_tokens encoding text at (s ∷ shown) = piece_tokens encoding text s.1 at s.0.text.now ++ shown_tokens encoding text (at + length s.0.text.now) shown

-- The numbers tell the tokens of these pieces as the language shows them, after a token at the last place. A client reads these
-- tokens, if none is in front of the one before it and 32 bits are enough.
pub record TellPieces (language : Language) (encoding : PositionEncoding) (text : List ℕ) (pieces : List Piece) (last : ℕ × ℕ) (numbers : List ℕ) : Type 0 where
  pub shown : List (Piece × Option ℕ)
  pub pieces_are : map (λ (s : Piece × Option ℕ). s.0) shown ≡ pieces
  pub kinds : All (λ (s : Piece × Option ℕ). IsShownAs language s.0 s.1) shown
  pub numbers_are : numbers ≡ numbers_of last (shown_tokens encoding text (begin_of pieces) shown)
  pub read : AreReadable last (shown_tokens encoding text (begin_of pieces) shown) → tokens_read last numbers ≡ shown_tokens encoding text (begin_of pieces) shown
