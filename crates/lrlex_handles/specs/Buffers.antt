-- What is written into a caller's buffer.
use Rattle.std.specs.Prelude.{◌≡◌, ℕ, ◌-◌, List, [], ◌∷◌, ◌++◌, length, min, take, drop}
use Rattle.lrlex_base.specs.LexemeParts.{LexemeParts}
use Rattle.lrlex_base.specs.Spans.{span_start, span_end}
use Rattle.lrlex.specs.Tiling.{Item, Lexeme, Error}
use Rattle.lrlex.specs.declared.reading.pieces.Piece as cut
use Rattle.lrlex_handles.specs.declared.structs.Token.{Token}
use Rattle.lrlex_handles.specs.declared.structs.Piece.{Piece}
use Rattle.lrlex_handles.specs.declared.structs.Place.{Place}

-- the buffer after as many of these bytes as there is room for
abbrev pub copied : (bytes room : List ℕ) → List ℕ
copied bytes room = take (min (length bytes) (length room)) bytes ++ drop (min (length bytes) (length room)) room

-- the bytes are in the buffer, as many as there is room for, and this is how many there are
abbrev pub IsWritten : (bytes room out : List ℕ) (len : ℕ) → Type 0
IsWritten bytes room out len = (out ≡ copied bytes room) × (len ≡ length bytes)

-- each item, as long as there is room, with what was at its index
abbrev pub filled : {X T : Type 0} (put : X → T → T) → List X → List T → List T
filled put [] ts = ts
filled put (x ∷ xs) [] = []
filled put (x ∷ xs) (t ∷ ts) = put x t ∷ filled put xs ts

-- the token of a lexeme
abbrev pub token_by : LexemeParts ℕ → Token
token_by x = record { start = x.start; len = x.len; id = x.id }

-- a lexeme takes the place of what was there, and an error does not
abbrev pub put_token : Item → Token → Token
put_token (Lexeme id start len faulty) t = record { start = start; len = len; id = id }
put_token (Error start end state) t = t

-- a piece, without its texts
abbrev pub piece_by : cut.Piece → Piece
piece_by p = record { start = span_start p.span; len = span_end p.span - span_start p.span; rule = p.rule }

-- a line and a column
abbrev pub place_by : ℕ × ℕ → Place
place_by p = record { line = p.0; column = p.1 }

-- a text of which this holds is in the buffer, as much as there is room for, and this is how long it is
abbrev pub IsReport : (List ℕ → Type 0) → (room out : List ℕ) (len : ℕ) → Type 0
IsReport P room out len = (text : List ℕ) × P text × IsWritten text room out len
