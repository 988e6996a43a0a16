-- What a client is told of the pieces of a text: a token for each part of a line in a piece, told by five numbers.
use Rattle.std.specs.Prelude.{ℕ, zero, ◌≡◌, ⊤, ◌+◌, ◌-◌, ◌^◌, ◌<◌, ◌==◌, ◌||◌, Bool, List, [], ◌∷◌, ◌++◌, Option, Some, None, length, min, nat_lt, if◌then◌else◌}
use Rattle.std.specs.List.{slice_split}
use Rattle.lrlex_positions.specs.Columns.{width}
use Rattle.lrlex_positions.specs.Positions.{position_of, IsUpTo}
use Rattle.lrlex_positions.specs.declared.encoding.PositionEncoding.{PositionEncoding}

-- ---- which tokens there are

-- where a token begins, by line and column, how many columns it takes, and the number of its type
pub record Token : Type 0 where
  pub place : ℕ × ℕ
  pub columns : ℕ
  pub kind : ℕ

-- U+000A and U+000D end lines, alone or together
abbrev pub ends_line : ℕ → Bool
ends_line b = b == 10 || b == 13

-- the part of a line that begins at this byte of the text is a token, unless it is empty or plain
abbrev pub part_token : PositionEncoding → (text : List ℕ) → (kind : Option ℕ) → (at : ℕ) → (part : List ℕ) → List Token
part_token encoding text None at part = []
part_token encoding text (Some kind) at [] = []
part_token encoding text (Some kind) at (b ∷ bs) = record { place = position_of encoding text at; columns = width encoding (b ∷ bs); kind = kind } ∷ []

-- those of parts in a row, with one byte that ends a line between two
abbrev pub part_tokens : PositionEncoding → (text : List ℕ) → (kind : Option ℕ) → (at : ℕ) → (parts : List (List ℕ)) → List Token
part_tokens encoding text kind at [] = []
part_tokens encoding text kind at (part ∷ parts) = part_token encoding text kind at part ++ part_tokens encoding text kind (at + length part + 1) parts

-- the tokens of a piece that begins at this byte of the text
abbrev pub piece_tokens : PositionEncoding → (text : List ℕ) → (kind : Option ℕ) → (at : ℕ) → (piece : List ℕ) → List Token
piece_tokens encoding text kind at piece = part_tokens encoding text kind at (slice_split ends_line piece)

-- ---- how they are told

-- line and column of a token that is so many lines down and columns right of the last one, in its line or from the line's beginning
abbrev pub reached : (last told : ℕ × ℕ) → ℕ × ℕ
reached last told = (last.0 + told.0, if told.0 == 0 then last.1 + told.1 else told.1)

-- how many lines down and columns right of the last place this one is
abbrev pub told_from : (last place : ℕ × ℕ) → ℕ × ℕ
told_from last place = (place.0 - last.0, if nat_lt last.0 place.0 then place.1 else place.1 - last.1)

-- a number, or the greatest of 32 bits
abbrev pub short : ℕ → ℕ
short n = min n (2 ^ 32 - 1)

-- five numbers follow: how far the token is from the last one, its length, the number of its type, and no modifiers
abbrev pub IsNextToken : (last place : ℕ × ℕ) → (length kind : ℕ) → (old new : List ℕ) → Type 0
IsNextToken last place length kind old new =
    (told : ℕ × ℕ) × (IsUpTo last place → reached last told ≡ place)
    × (new ≡ old ++ (short told.0 ∷ short told.1 ∷ short length ∷ kind ∷ zero ∷ []))

-- the numbers of tokens in a row, after a token at this place
abbrev pub numbers_of : (last : ℕ × ℕ) → List Token → List ℕ
numbers_of last [] = []
numbers_of last (t ∷ ts) =
    let told = told_from last t.place in
    short told.0 ∷ short told.1 ∷ short t.columns ∷ t.kind ∷ zero ∷ numbers_of t.place ts

-- where the last of them is
abbrev pub last_place : (last : ℕ × ℕ) → List Token → ℕ × ℕ
last_place last [] = last
last_place last (t ∷ ts) = last_place t.place ts

-- numbers that tell these tokens follow, and the last place is theirs
pub record AreTold (tokens : List Token) (last now : ℕ × ℕ) (old new : List ℕ) : Type 0 where
  pub numbers : new ≡ old ++ numbers_of last tokens
  pub place : now ≡ last_place last tokens

-- ---- how a client reads them

-- the tokens that it finds in such numbers, after a token at this place
abbrev pub tokens_read : (last : ℕ × ℕ) → List ℕ → List Token
tokens_read last [] = []
tokens_read last (_ ∷ []) = []
tokens_read last (_ ∷ _ ∷ []) = []
tokens_read last (_ ∷ _ ∷ _ ∷ []) = []
tokens_read last (_ ∷ _ ∷ _ ∷ _ ∷ []) = []
tokens_read last (down ∷ right ∷ columns ∷ kind ∷ _ ∷ rest) =
    let place = reached last (down, right) in
    record { place = place; columns = columns; kind = kind } ∷ tokens_read place rest

-- no token is in front of the one before it, and 32 bits hold how far it is, and its columns
abbrev pub AreReadable : (last : ℕ × ℕ) → List Token → Type 0
AreReadable last [] = ⊤
AreReadable last (t ∷ ts) =
    let told = told_from last t.place in
    IsUpTo last t.place × (told.0 < 2 ^ 32) × (told.1 < 2 ^ 32) × (t.columns < 2 ^ 32) × AreReadable t.place ts
