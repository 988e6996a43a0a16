-- The lines of a text begin one after another.
use Rattle.std.proofs.Common.{◌≡◌, ℕ, zero, suc, ◌+◌, ◌<◌, ◌≤◌, Bool, true, false, List, [], ◌∷◌, length, get_or, take, map, refl, sym, ap, subst, arith}
use Rattle.std.specs.Prelude.{filter, not, if◌then◌else◌}
use Rattle.std.specs.List.{prefix_len}
use Rattle.std.specs.Char.{len_utf8}
use Rattle.std.specs.Str.{chars}
use Rattle.std.proofs.lemmas.Str.{len_utf8_bounds}
use Rattle.std.proofs.lemmas.List.{length-map}
use Rattle.lrlex_parser.specs.declared.text.Margins.TheVariants as margins
use Rattle.lrlex_parser.specs.declared.text.Line.{Line}
use Rattle.lrlex_parser.specs.Text.{Piece, piece, cut_chars, onto_first_piece, cut_lines}
use Rattle.lrlex_base.specs.Classes.{is_line_sep}
use Rattle.lrlex_parser.specs.Declaration.{section_lines, is_skipped, ends_section}
use Rattle.lrlex_parser.specs.LexParser.{as_piece, AreApart, laid_out}
use Rattle.lrlex_parser.proofs.Extends.{map_at}

abbrev pub Rise : ℕ → List Piece → Type 0
Rise a [] = Unit {0}
Rise a (x ∷ xs) = (a ≤ x.at) × Rise (x.at + 1) xs

pub rise_weak : (a b : ℕ) (xs : List Piece) → b ≤ a → Rise a xs → Rise b xs
rise_weak a b [] h r = tt
rise_weak a b (x ∷ xs) h r = let low = r.0 in (omega arith, r.1)

rise_at : (a : ℕ) (xs : List Piece) (j : ℕ) (d : Piece) → Rise a xs → j < length xs → a ≤ (get_or xs j d).at
rise_at a [] j d r h = absurd (omega arith)
rise_at a (x ∷ xs) zero d r h = r.0
rise_at a (x ∷ xs) (suc j) d r h = let low = r.0 in let next = rise_at (x.at + 1) xs j d r.1 (omega arith) in omega arith

rise_apart : (a : ℕ) (xs : List Piece) (i j : ℕ) (d : Piece) → Rise a xs → i < j → j < length xs → (get_or xs i d).at < (get_or xs j d).at
rise_apart a [] i j d r h k = absurd (omega arith)
rise_apart a (x ∷ xs) i zero d r h k = absurd (omega arith)
rise_apart a (x ∷ xs) zero (suc j) d r h k = let next = rise_at (x.at + 1) xs j d r.1 (omega arith) in omega arith
rise_apart a (x ∷ xs) (suc i) (suc j) d r h k = rise_apart (x.at + 1) xs i j d r.1 (omega arith) (omega arith)

abbrev CutRise : ℕ → List Piece → Type 0
CutRise o [] = Unit {0}
CutRise o (x ∷ xs) = (x.at ≡ o) × Rise (o + 1) xs

onto_rise : (o c w : ℕ) (ps : List Piece) → 0 < w → CutRise (o + w) ps → CutRise o (onto_first_piece o c ps)
onto_rise o c w [] h r = (refl, tt)
onto_rise o c w (x ∷ xs) h r = (refl, rise_weak ((o + w) + 1) (o + 1) xs (omega arith) r.1)

cons_rise : (o w : ℕ) (ps : List Piece) → 0 < w → CutRise (o + w) ps → CutRise o (piece o [] ∷ ps)
cons_rise o w [] h r = (refl, tt)
cons_rise o w (x ∷ xs) h r =
    let same = r.0 in
    let n : (o + w) + 1 ≡ x.at + 1 = omega arith in
    (refl, (omega arith, subst (λ (k : ℕ). Rise k xs) n r.1))

either_rise : (b : Bool) (o : ℕ) (x y : List Piece) → CutRise o x → CutRise o y → CutRise o (if b then x else y)
either_rise true o x y h k = h
either_rise false o x y h k = k

cut_rise : (p : ℕ → Bool) (o : ℕ) (cs : List ℕ) → CutRise o (cut_chars p o cs)
cut_rise p o [] = (refl, tt)
cut_rise p o (c ∷ cs) =
    let wide = len_utf8_bounds c in
    let rest = cut_rise p (o + len_utf8 c) cs in
    either_rise (p c) o (piece o [] ∷ cut_chars p (o + len_utf8 c) cs) (onto_first_piece o c (cut_chars p (o + len_utf8 c) cs))
    (cons_rise o (len_utf8 c) (cut_chars p (o + len_utf8 c) cs) (omega arith) rest) (onto_rise o c (len_utf8 c) (cut_chars p (o + len_utf8 c) cs) (omega arith) rest)

from_cut : (o : ℕ) (ps : List Piece) → CutRise o ps → Rise o ps
from_cut o [] r = tt
from_cut o (x ∷ xs) r = let same = r.0 in let n : o + 1 ≡ x.at + 1 = omega arith in (omega arith, subst (λ (k : ℕ). Rise k xs) n r.1)

take_rise : (a n : ℕ) (xs : List Piece) → Rise a xs → Rise a (take n xs)
take_rise a zero xs r = tt
take_rise a (suc n) [] r = tt
take_rise a (suc n) (x ∷ xs) r = (r.0, take_rise (x.at + 1) n xs r.1)

kept_rise : (b : Bool) (a : ℕ) (x : Piece) (xs : List Piece) → a ≤ x.at → Rise (x.at + 1) xs → Rise a (if b then x ∷ xs else xs)
kept_rise true a x xs h r = (h, r)
kept_rise false a x xs h r = rise_weak (x.at + 1) a xs (omega arith) r

filter_rise : (q : Piece → Bool) (a : ℕ) (xs : List Piece) → Rise a xs → Rise a (filter q xs)
filter_rise q a [] r = tt
filter_rise q a (x ∷ xs) r = kept_rise (q x) a x (filter q xs) r.0 (filter_rise q (x.at + 1) xs r.1)

pub as_written : (xs : List Piece) → map (laid_out margins.Kept) xs ≡ xs
as_written [] = refl
as_written (x ∷ xs) = ap (λ (ys : List Piece). x ∷ ys) (as_written xs)

pub section_rise : (comments : Bool) (x : Piece) → Rise x.at (section_lines comments (map (laid_out margins.Kept) (cut_lines x)))
section_rise comments x =
    let all : Rise x.at (map (laid_out margins.Kept) (cut_lines x)) = subst (λ (ys : List Piece). Rise x.at ys) (sym (as_written (cut_lines x))) (from_cut x.at (cut_lines x) (cut_rise is_line_sep x.at (chars x.text))) in
    filter_rise (λ (line : Piece). not (is_skipped comments line.text)) x.at _ (take_rise x.at (prefix_len (λ (line : Piece). not (ends_section line.text)) (map (laid_out margins.Kept) (cut_lines x))) (map (laid_out margins.Kept) (cut_lines x)) all)

pub lines_apart : (comments : Bool) (x : Piece) (ls : List Line) → map as_piece ls ≡ section_lines comments (map (laid_out margins.Kept) (cut_lines x)) → AreApart ls
lines_apart comments x ls e i j d h k =
    let rise : Rise x.at (map as_piece ls) = subst (λ (ys : List Piece). Rise x.at ys) (sym e) (section_rise comments x) in
    let same = length-map ls as_piece in
    let apart = rise_apart x.at (map as_piece ls) i j (as_piece d) rise h (omega arith) in
    let here = map_at as_piece ls i d in
    let there = map_at as_piece ls j d in
    let left : (get_or (map as_piece ls) i (as_piece d)).at ≡ (get_or ls i d).at = ap (λ (p : Piece). p.at) here in
    let right : (get_or (map as_piece ls) j (as_piece d)).at ≡ (get_or ls j d).at = ap (λ (p : Piece). p.at) there in
    omega arith
