-- The text of a rule file: its lines, and the white space round a piece of it.
-- A text is a list of bytes in UTF-8, and an offset counts bytes.
use Rattle.std.specs.Prelude.{◌≡◌, ℕ, true, ◌+◌, ◌-◌, Bool, Option, Some, None, if◌then◌else◌, List, All, [], ◌∷◌, ◌++◌, length, nat_eq, ◌==◌, encode_utf8_all}
use Rattle.std.specs.Char.{encode_utf8, len_utf8}
use Rattle.std.specs.List.{starts_with, list_all, list_any, before_last, after_last}
use Rattle.std.specs.Str.{chars, bytes_eq, NonePass}
use Rattle.lrlex_base.specs.Classes.{is_line_sep, is_white_space}

-- a piece of a text, and the offset of its first byte
pub record Piece : Type 0 where
  pub at : ℕ
  pub text : List ℕ

abbrev pub piece : ℕ → List ℕ → Piece
piece at text = record { at = at; text = text }

-- the pieces, the first of which now begins at o with the character c
abbrev pub onto_first_piece : ℕ → ℕ → List Piece → List Piece
onto_first_piece o c [] = piece o (encode_utf8 c) ∷ []
onto_first_piece o c (first ∷ more) = piece o (encode_utf8 c ++ first.text) ∷ more

-- the characters from offset o on, cut at each single one that passes p
abbrev pub cut_chars : (ℕ → Bool) → ℕ → List ℕ → List Piece
cut_chars p o [] = piece o [] ∷ []
cut_chars p o (c ∷ cs) = if p c then piece o [] ∷ cut_chars p (o + len_utf8 c) cs else onto_first_piece o c (cut_chars p (o + len_utf8 c) cs)

-- a piece, cut at each single character that passes p
abbrev pub cut : (ℕ → Bool) → Piece → List Piece
cut p x = cut_chars p x.at (chars x.text)

-- the pieces of characters, with these characters between them
abbrev pub rejoined : List (List ℕ) → List ℕ → List ℕ
rejoined [] between = []
rejoined (t ∷ ts) [] = t
rejoined (t ∷ ts) (c ∷ cs) = t ++ c ∷ rejoined ts cs

-- The characters are these pieces with these characters between them. Each of those passes p, and none in a piece does.
pub record IsCut (p : ℕ → Bool) (all : List ℕ) (pieces : List (List ℕ)) (between : List ℕ) : Type 0 where
  pub joined : rejoined pieces between ≡ all
  pub count : length pieces ≡ length between + 1
  pub inside : All (NonePass p) pieces
  pub between_pass : All (λ c. p c ≡ true) between

-- pieces of characters from offset o on, with these characters between them
abbrev pub pieces_at : ℕ → List (List ℕ) → List ℕ → List Piece
pieces_at o [] between = []
pieces_at o (t ∷ ts) [] = piece o (encode_utf8_all t) ∷ []
pieces_at o (t ∷ ts) (c ∷ cs) = piece o (encode_utf8_all t) ∷ pieces_at (o + (length (encode_utf8_all t) + len_utf8 c)) ts cs

-- the lines of a text, without their separators
abbrev pub cut_lines : Piece → List Piece
cut_lines x = cut is_line_sep x

-- the lines of what is left of a text that ends at this offset, where something is left
abbrev pub lines_left : ℕ → Option (List ℕ) → List Piece
lines_left end None = []
lines_left end (Some rest) = cut_lines (piece (end - length rest) rest)

-- the pieces of what is left of a text that ends at this offset, where something is left
abbrev pub pieces_left : (ℕ → Bool) → ℕ → Option (List ℕ) → List Piece
pieces_left p end None = []
pieces_left p end (Some rest) = cut p (piece (end - length rest) rest)

-- the characters without those that pass p at the front, and at the end
abbrev pub skip_leading : (ℕ → Bool) → List ℕ → List ℕ
skip_leading p [] = []
skip_leading p (c ∷ cs) = if p c then skip_leading p cs else c ∷ cs

-- c, and what is kept after it; with nothing after it, c stays only if it fails p
abbrev pub unless_last : (ℕ → Bool) → ℕ → List ℕ → List ℕ
unless_last p c [] = if p c then [] else c ∷ []
unless_last p c (d ∷ ds) = c ∷ d ∷ ds

abbrev pub drop_trailing : (ℕ → Bool) → List ℕ → List ℕ
drop_trailing p [] = []
drop_trailing p (c ∷ cs) = unless_last p c (drop_trailing p cs)

-- the text without the white space at its front, at its end, and at both
abbrev pub trim_start : List ℕ → List ℕ
trim_start text = encode_utf8_all (skip_leading is_white_space (chars text))

abbrev pub trim_end : List ℕ → List ℕ
trim_end text = encode_utf8_all (drop_trailing is_white_space (chars text))

abbrev pub trim_text : List ℕ → List ℕ
trim_text text = trim_end (trim_start text)

-- a piece without the white space round it
abbrev pub trim : Piece → Piece
trim x = piece (x.at + (length x.text - length (trim_start x.text))) (trim_text x.text)

-- a text of white space alone
abbrev pub is_white : List ℕ → Bool
is_white text = list_all is_white_space (chars text)

abbrev pub is_empty : List ℕ → Bool
is_empty text = length text == 0

-- texts are compared byte by byte
abbrev pub same_text : List ℕ → List ℕ → Bool
same_text = bytes_eq

abbrev pub begins_with : List ℕ → List ℕ → Bool
begins_with front text = starts_with nat_eq text front

-- the text is cut at its last element that passes p
pub record SplitsAtLast (p : ℕ → Bool) (text front back : List ℕ) : Type 0 where
  pub has : list_any p text ≡ true
  pub front_is : front ≡ before_last p text
  pub back_is : back ≡ after_last p text
