-- The line and the column of a place behind one more character.
use Rattle.std.proofs.Common.{◌≡◌, inl, inr, ℕ, ◌+◌, ◌-◌, ◌<◌, ◌≤◌, Bool, false, not, cond, eqb, List, [], ◌∷◌, ◌++◌, length, take, drop, get_or, sym, ◌∙◌, ap, ap₂, subst, arith}
use Rattle.std.specs.List.{count_by, after_last, suffix_len}
use Rattle.std.specs.Str.{chars, IsCharBoundary, IsUtf8}
use Rattle.std.specs.Char.{len_utf8}
use Rattle.std.proofs.Math.Utf8.{encode}
use Rattle.std.proofs.lemmas.Bool.{ne_eqb, cases_eq}
use Rattle.std.proofs.lemmas.List.{nil_from_length, length-append, length-drop, length-take-le, drop-drop, take_at, take-take, append-nil, get_or-drop}
use Rattle.std.proofs.lemmas.List.Sums.{sum_by-append, count_by-le-length, suffix_len-take_no}
use Rattle.std.proofs.lemmas.Str.{chars-append, chars_past_char, chars-nil, IsUtf8-between, IsUtf8-drop, IsCharBoundary-past_char, drop_past_char, length-encode, length-le-encodes, encodes-chars, encode_ascii, NoCharPasses-byte}
use Rattle.lrlex_base.specs.Places.{is_newline, newlines_from, starts_after, line_of, column_of, place_of}
use Rattle.lrlex_base.proofs.NewlineLemmas.{begun_within, line_begin, line_front, line_begin_fits}
use Rattle.lrlex_positions.proofs.ColumnLemmas.{longer}
use Rattle.lrlex_positions.proofs.PositionLemmas.{count_none}

abbrev begun : List ℕ → ℕ → ℕ
begun text at = count_by is_newline (take at text)

abbrev front : List ℕ → ℕ → List ℕ
front text at = after_last is_newline (take at text)

-- one character on
pub record Passed (text : List ℕ) (at c : ℕ) (rest : List ℕ) : Type 0 where
  pub fits : IsCharBoundary text (at + len_utf8 c)
  pub left : drop (at + len_utf8 c) text ≡ rest
  pub newline : c ≡ 10 → place_of text (at + len_utf8 c) ≡ (line_of text at + 1, 1)
  pub other : (c ≡ 10 → ⊥) → place_of text (at + len_utf8 c) ≡ (line_of text at, column_of text at + 1)

-- the bytes of another character are no newlines
no_newline : (c : ℕ) → (c ≡ 10 → ⊥) → (k : ℕ) → k < length (encode c) → is_newline (get_or (encode c) k 0) ≡ false
no_newline c h k l =
    elim (cases_eq (get_or (encode c) k 0) 10) [
      | inl e ↦ NoCharPasses-byte (λ x. eqb x 10) (encode c) k (c ∷ [], append-nil (encode c), (ne_eqb c 10 h, tt)) l (omega (arith, e))
      | inr n ↦ ne_eqb (get_or (encode c) k 0) 10 n
    ]

-- what is added to a text up to a place
part : (text : List ℕ) (at c : ℕ) (rest : List ℕ) → drop at text ≡ encode c ++ rest → take (at + len_utf8 c - at) (drop at text) ≡ encode c
part text at c rest e =
    let n = len_utf8 c in
    let back : at + n - at ≡ n = omega arith in
    ap (λ m. take m (drop at text)) back ∙ ap (take n) e ∙ take_at (encode c) rest n (length-encode c)

more : (text : List ℕ) (at c : ℕ) (rest : List ℕ) → drop at text ≡ encode c ++ rest → begun text (at + len_utf8 c) ≡ begun text at + count_by is_newline (encode c)
more text at c rest e =
    let whole : take (at + len_utf8 c) text ≡ take at text ++ encode c = longer at (at + len_utf8 c) text (omega arith) ∙ ap (λ b. take at text ++ b) (part text at c rest e) in
    ap (count_by is_newline) whole ∙ sum_by-append (λ x. cond (is_newline x) 1 0) (take at text) (encode c)

-- behind a newline a line begins
begins : (text : List ℕ) (at : ℕ) → at + 1 ≤ length text → get_or text at 0 ≡ 10 → length (front text (at + 1)) ≡ 0
begins text at h is =
    let q : ℕ → Bool = λ c. not (is_newline c) in
    let one : at + 1 - 1 ≡ at = omega arith in
    let here : q (get_or text (at + 1 - 1) 0) ≡ false = ap (λ k. q (get_or text k 0)) one ∙ ap (λ b. not (is_newline b)) is in
    let stop : suffix_len q (take (at + 1) text) ≡ 0 = suffix_len-take_no q text (at + 1) 0 (omega arith) h here in
    omega (arith, length-drop (length (take (at + 1) text) - suffix_len q (take (at + 1) text)) (take (at + 1) text), stop)

after_newline : (text : List ℕ) (at c : ℕ) (rest : List ℕ) → at + len_utf8 c ≤ length text → drop at text ≡ encode c ++ rest → c ≡ 10
    → place_of text (at + len_utf8 c) ≡ (line_of text at + 1, 1)
after_newline text at c rest h e is =
    let bytes : encode c ≡ 10 ∷ [] = ap encode is ∙ encode_ascii 10 (omega arith) in
    let one : len_utf8 c ≡ 1 = sym (length-encode c) ∙ ap length bytes in
    let zero_on : at + 0 ≡ at = omega arith in
    let here : get_or text at 0 ≡ 10 = ap (λ k. get_or text k 0) (sym zero_on) ∙ sym (get_or-drop at text 0 0) ∙ ap (λ xs. get_or xs 0 0) (e ∙ ap (λ xs. xs ++ rest) bytes) in
    let next : at + len_utf8 c ≡ at + 1 = omega (arith, one) in
    let counted : begun text (at + len_utf8 c) ≡ begun text at + 1 = more text at c rest e ∙ ap (λ xs. begun text at + count_by is_newline xs) bytes in
    let empty : front text (at + len_utf8 c) ≡ [] = nil_from_length (front text (at + len_utf8 c)) (ap (λ k. length (front text k)) next ∙ begins text at (omega (arith, h, one)) here) in
    ap₂ (λ l k. (l, k)) (omega (arith, counted)) (ap (λ xs. 1 + length (chars xs)) empty ∙ ap (λ xs. 1 + length xs) chars-nil)

-- what stands between a line's beginning and a place of it
front_fits : (text : List ℕ) (at : ℕ) → IsUtf8 text → IsCharBoundary text at → IsUtf8 (front text at)
front_fits text at u fits =
    let b = get_or (0 ∷ starts_after (newlines_from 0 text)) (begun text at) 0 in
    let here : b + length (front text at) ≡ at = line_begin text at fits.0 in
    subst IsUtf8 (line_front text at b fits.0 here) (IsUtf8-between text b at u (omega (arith, here)) (line_begin_fits text (begun text at) u (begun_within text at fits.0)) fits)

-- neither number is greater than that of the bytes before the place and one
pub short : (text : List ℕ) (at : ℕ) → IsUtf8 text → IsCharBoundary text at → (line_of text at ≤ at + 1) × (column_of text at ≤ at + 1)
short text at u fits =
    let begin = line_begin text at fits.0 in
    let bytes : length (front text at) ≤ at = omega (arith, begin) in
    let some = length-le-encodes (chars (front text at)) in
    let all = ap length (encodes-chars (front text at) (front_fits text at u fits)) in
    (omega (arith, count_by-le-length is_newline (take at text), length-take-le at text fits.0), omega (arith, bytes, some, all))

-- the front of a line with one more character
longer_front : (text : List ℕ) (at c : ℕ) (rest : List ℕ) → IsUtf8 text → IsCharBoundary text at → IsCharBoundary text (at + len_utf8 c) → drop at text ≡ encode c ++ rest
    → begun text (at + len_utf8 c) ≡ begun text at → length (chars (front text (at + len_utf8 c))) ≡ length (chars (front text at)) + 1
longer_front text at c rest u fits on e same =
    let n = len_utf8 c in
    let b = get_or (0 ∷ starts_after (newlines_from 0 text)) (begun text at) 0 in
    let here : b + length (front text at) ≡ at = line_begin text at fits.0 in
    let there : b + length (front text (at + n)) ≡ at + n = ap (λ k. get_or (0 ∷ starts_after (newlines_from 0 text)) k 0 + length (front text (at + n))) (sym same) ∙ line_begin text (at + n) on.0 in
    let before : take (at - b) (drop b text) ≡ front text at = line_front text at b fits.0 here in
    let after : take (at + n - b) (drop b text) ≡ front text (at + n) = line_front text (at + n) b on.0 there in
    let rise : b + (at - b) ≡ at = omega (arith, here) in
    let gap : (at + n - b) - (at - b) ≡ at + n - at = omega (arith, here) in
    let behind : take ((at + n - b) - (at - b)) (drop (at - b) (drop b text)) ≡ encode c =
    ap₂ (λ k xs. take k xs) gap (drop-drop (at - b) b text ∙ ap (λ k. drop k text) rise) ∙ part text at c rest e in
    let whole : front text (at + n) ≡ front text at ++ encode c =
    sym after ∙ longer (at - b) (at + n - b) (drop b text) (omega arith) ∙ ap₂ (λ xs ys. xs ++ ys) before behind in
    let good = front_fits text at u fits in
    let char : IsUtf8 (encode c) = subst IsUtf8 (part text at c rest e) (IsUtf8-between text at (at + n) u (omega arith) fits on) in
    let alone : chars (encode c) ≡ c ∷ [] = chars_past_char (encode c) [] c char (sym (append-nil (encode c))) ∙ ap (λ cs. c ∷ cs) chars-nil in
    let both : chars (front text (at + n)) ≡ chars (front text at) ++ c ∷ [] = ap chars whole ∙ chars-append (front text at) (encode c) good ∙ ap (λ cs. chars (front text at) ++ cs) alone in
    ap length both ∙ length-append (chars (front text at)) (c ∷ [])

pub passed : (text : List ℕ) (at c : ℕ) (rest : List ℕ) → IsUtf8 text → IsCharBoundary text at → drop at text ≡ encode c ++ rest → Passed text at c rest
passed text at c rest u fits e =
    let on : IsCharBoundary text (at + len_utf8 c) = IsCharBoundary-past_char text rest at c fits.0 (IsUtf8-drop text at u fits) e in
    record {
      fits = on;
      left = drop_past_char text rest at c e;
      newline = λ is. after_newline text at c rest on.0 e is;
      other = λ not_it.
          let same : begun text (at + len_utf8 c) ≡ begun text at = omega (arith, more text at c rest e, count_none (encode c) (no_newline c not_it)) in
          ap₂ (λ l k. (l, k)) (ap (λ k. 1 + k) same) (omega (arith, longer_front text at c rest u fits on e same));
    }

-- the first place
pub first : (text : List ℕ) → (1, 1) ≡ place_of text 0
first [] = ap (λ cs. (1, 1 + length cs)) (sym chars-nil)
first (x ∷ text) = ap (λ cs. (1, 1 + length cs)) (sym chars-nil)

-- a place of a text is told by a longer front too
pub of_front : (text : List ℕ) (from at : ℕ) → from ≤ at → place_of (take at text) from ≡ place_of text from
of_front text from at h = ap (λ xs. (1 + count_by is_newline xs, 1 + length (chars (after_last is_newline xs)))) (take-take from at text h)
