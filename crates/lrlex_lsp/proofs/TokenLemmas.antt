-- Places of a text, one part of a line or one end of a line after the other.
use Rattle.std.proofs.Common.{◌≡◌, ◌⊎◌, inl, inr, ℕ, zero, suc, ◌+◌, ◌-◌, ◌^◌, ◌<◌, ◌≤◌, Bool, true, false, not, cond, ◌&&◌, ◌||◌, eqb, List, [], ◌∷◌, ◌++◌, length, take, drop, get_or, min, refl, sym, ◌∙◌, ap, ap₂, subst, arith, append_assoc}
use Rattle.std.specs.List.{count_by, after_last, suffix_len, prefix_len}
use Rattle.std.specs.Str.{IsAscii, IsCharBoundary, IsUtf8}
use Rattle.std.proofs.lemmas.Bool.{cases_eq, cases_lt, eqb-true, eqb-false, eq-eqb, ne_eqb}
use Rattle.std.proofs.lemmas.List.{append-nil, reverse-append, length-append, length-drop, length-take-le, drop-append-le, nil_from_length, take_at, take_more, get_or-drop}
use Rattle.std.proofs.lemmas.List.Sums.{sum_by-append, sum_by-cons, count_by-le-length}
use Rattle.std.proofs.lemmas.Str.{IsUtf8-append, IsUtf8-between, IsUtf8-nil, IsUtf8-from_ascii, chars-nil}
use Rattle.lrlex_base.specs.Places.{is_newline}
use Rattle.lrlex_positions.specs.Columns.{units, width}
use Rattle.lrlex_positions.specs.Lines.{is_lone_return, with_newlines, HasPosition, IsNearestPlace}
use Rattle.lrlex_positions.specs.Positions.{position_of}
use Rattle.lrlex_positions.specs.declared.encoding.PositionEncoding.{PositionEncoding}
use Rattle.lrlex_positions.specs.declared.encoding.PositionEncoding.TheVariants.{Utf8, Utf16}
use Rattle.lrlex_positions.proofs.ColumnLemmas.{width-append, longer}
use Rattle.lrlex_positions.proofs.LineLemmas.{length-with, drop-with, byte-with}
use Rattle.lrlex_positions.proofs.PositionLemmas.{front_of, nearest_before}
use Rattle.lrlex_positions.proofs.Utf16Lemmas.{units_fit}
use Rattle.lrlex_lsp.specs.Rows.{IsAt}
use Rattle.lrlex_lsp.specs.Tokens.{ends_line}

-- ---- lists that end with one byte more

abbrev q : ℕ → Bool
q x = not (is_newline x)

suffix_more : (xs : List ℕ) (b : ℕ) → suffix_len q (xs ++ (b ∷ [])) ≡ cond (q b) (1 + suffix_len q xs) 0
suffix_more xs b = ap (prefix_len q) (reverse-append xs (b ∷ []))

after_newline : (xs : List ℕ) → after_last is_newline (xs ++ (10 ∷ [])) ≡ []
after_newline xs =
    let all = xs ++ (10 ∷ []) in
    nil_from_length (after_last is_newline all) (omega (arith, length-drop (length all - suffix_len q all) all, suffix_more xs 10))

after_other : (xs : List ℕ) (b : ℕ) → is_newline b ≡ false → after_last is_newline (xs ++ (b ∷ [])) ≡ after_last is_newline xs ++ (b ∷ [])
after_other xs b e =
    let s : suffix_len q (xs ++ (b ∷ [])) ≡ 1 + suffix_len q xs = suffix_more xs b ∙ ap (λ v. cond (not v) (1 + suffix_len q xs) 0) e in
    let n : length (xs ++ (b ∷ [])) - suffix_len q (xs ++ (b ∷ [])) ≡ length xs - suffix_len q xs = omega (arith, s, length-append xs (b ∷ [])) in
    ap (λ k. drop k (xs ++ (b ∷ []))) n ∙ drop-append-le (length xs - suffix_len q xs) xs (b ∷ []) (omega arith)

count_more : (xs : List ℕ) (b : ℕ) → count_by is_newline (xs ++ (b ∷ [])) ≡ count_by is_newline xs + cond (is_newline b) 1 0
count_more xs b = omega (arith, sum_by-append (λ x. cond (is_newline x) 1 0) xs (b ∷ []), sum_by-cons (λ x. cond (is_newline x) 1 0) b [])

count_newline : (xs : List ℕ) → count_by is_newline (xs ++ (10 ∷ [])) ≡ count_by is_newline xs + 1
count_newline xs = count_more xs 10

count_other : (xs : List ℕ) (b : ℕ) → is_newline b ≡ false → count_by is_newline (xs ++ (b ∷ [])) ≡ count_by is_newline xs
count_other xs b e = omega (arith, count_more xs b, ap {B = ℕ} (λ v. cond v 1 0) e)

after_part : (xs part : List ℕ) → ((i : ℕ) → i < length part → is_newline (get_or part i 0) ≡ false) → after_last is_newline (xs ++ part) ≡ after_last is_newline xs ++ part
after_part xs [] h = ap (after_last is_newline) (append-nil xs) ∙ sym (append-nil (after_last is_newline xs))
after_part xs (b ∷ bs) h =
    ap (after_last is_newline) (sym (append_assoc xs (b ∷ []) bs)) ∙ after_part (xs ++ (b ∷ [])) bs (λ i l. h (suc i) (omega (arith, l)))
    ∙ ap (λ ys. ys ++ bs) (after_other xs b (h 0 (omega arith))) ∙ append_assoc (after_last is_newline xs) (b ∷ []) bs

count_part : (xs part : List ℕ) → ((i : ℕ) → i < length part → is_newline (get_or part i 0) ≡ false) → count_by is_newline (xs ++ part) ≡ count_by is_newline xs
count_part xs [] h = ap (count_by is_newline) (append-nil xs)
count_part xs (b ∷ bs) h =
    ap (count_by is_newline) (sym (append_assoc xs (b ∷ []) bs)) ∙ count_part (xs ++ (b ∷ [])) bs (λ i l. h (suc i) (omega (arith, l)))
    ∙ count_other xs b (h 0 (omega arith))

-- ---- columns

no_columns : (encoding : PositionEncoding) → width encoding [] ≡ 0
no_columns Utf8 = refl
no_columns Utf16 = ap units chars-nil

few_columns : (encoding : PositionEncoding) (text : List ℕ) → IsUtf8 text → width encoding text ≤ length text
few_columns Utf8 text u = omega arith
few_columns Utf16 text u = units_fit text u

-- ---- what ends no line

newline_not : (b : ℕ) → ends_line b ≡ false → is_newline b ≡ false
newline_not b e = left (is_newline b) (eqb b 13) e
  where
    left : (u v : Bool) → (u || v) ≡ false → u ≡ false
    left true v k = k
    left false v k = refl

return_not : (b : ℕ) → ends_line b ≡ false → b ≡ 13 → ⊥
return_not b e = eqb-false b 13 (right (is_newline b) (eqb b 13) e)
  where
    right : (u v : Bool) → (u || v) ≡ false → v ≡ false
    right true true k = k
    right true false k = refl
    right false v k = k

-- ---- a text up to a place, with the lines of the protocol

abbrev upto : List ℕ → ℕ → List ℕ
upto text at = take at (with_newlines text)

first_is : (text : List ℕ) (at b : ℕ) (rest : List ℕ) → drop at text ≡ b ∷ rest → get_or text at 0 ≡ b
first_is text at b rest e =
    (let n : at + 0 ≡ at = omega arith in ap (λ k. get_or text k 0) (sym n)) ∙ sym (get_or-drop at text 0 0) ∙ ap (λ xs. get_or xs 0 0) e

next_is : (text : List ℕ) (at b : ℕ) (rest : List ℕ) → drop at text ≡ b ∷ rest → get_or text (at + 1) 0 ≡ get_or rest 0 0
next_is text at b rest e = sym (get_or-drop at text 1 0) ∙ ap (λ xs. get_or xs 1 0) e

in_text : (text : List ℕ) (at b : ℕ) (rest : List ℕ) → drop at text ≡ b ∷ rest → at < length text
in_text text at b rest e = omega (arith, ap length e, length-drop at text)

-- what has no return stays
with_part : (part rest : List ℕ) → ((i : ℕ) → i < length part → get_or part i 0 ≡ 13 → ⊥) → with_newlines (part ++ rest) ≡ part ++ with_newlines rest
with_part [] rest h = refl
with_part (x ∷ xs) rest h =
    let other : is_lone_return x (xs ++ rest) ≡ false = ap (λ v. v && not (is_newline (get_or (xs ++ rest) 0 0))) (ne_eqb x 13 (h 0 (omega arith))) in
    ap₂ (λ c cs. c ∷ cs) (ap (λ v. cond v 10 x) other) (with_part xs rest (λ i l. h (suc i) (omega (arith, l))))

-- a byte stands in the text
by_byte : (text : List ℕ) (at b : ℕ) → get_or text at 0 ≡ suc b → at < length text
by_byte [] at b e = absurd (omega (arith, e))
by_byte (x ∷ xs) zero b e = omega arith
by_byte (x ∷ xs) (suc at) b e = omega (arith, by_byte xs at b e)

-- one byte more
upto_more : (text : List ℕ) (at : ℕ) → at < length text → upto text (at + 1) ≡ upto text at ++ (get_or (with_newlines text) at 0 ∷ [])
upto_more text at h = take_more (with_newlines text) at 0 (omega (arith, h, length-with text))

-- a part without an end of a line more
upto_part : (text : List ℕ) (at : ℕ) (part rest : List ℕ) → drop at text ≡ part ++ rest → ((i : ℕ) → i < length part → get_or part i 0 ≡ 13 → ⊥) → upto text (at + length part) ≡ upto text at ++ part
upto_part text at part rest e none =
    let W = with_newlines text in
    let n = length part in
    let back : at + n - at ≡ n = omega arith in
    let tail : drop at W ≡ part ++ with_newlines rest = drop-with at text ∙ ap with_newlines e ∙ with_part part rest none in
    longer at (at + n) W (omega arith) ∙ ap (λ k. upto text at ++ take k (drop at W)) back
    ∙ ap (λ xs. upto text at ++ take n xs) tail ∙ ap (λ xs. upto text at ++ xs) (take_at part (with_newlines rest) n refl)

-- U+000A is a newline, and U+000D one where no U+000A follows
newline_byte : (text : List ℕ) (at : ℕ) → at < length text → get_or text at 0 ≡ 10 → get_or (with_newlines text) at 0 ≡ 10
newline_byte text at h e = byte-with text at h ∙ both (is_lone_return (get_or text at 0) (drop (at + 1) text))
  where
    both : (v : Bool) → cond v 10 (get_or text at 0) ≡ 10
    both true = refl
    both false = e

lone_byte : (text : List ℕ) (at : ℕ) → at < length text → get_or text at 0 ≡ 13 → (get_or text (at + 1) 0 ≡ 10 → ⊥) → get_or (with_newlines text) at 0 ≡ 10
lone_byte text at h e other =
    let next : get_or (drop (at + 1) text) 0 0 ≡ get_or text (at + 1) 0 = get_or-drop (at + 1) text 0 0 ∙ (let n : at + 1 + 0 ≡ at + 1 = omega arith in ap (λ k. get_or text k 0) n) in
    let lone : is_lone_return (get_or text at 0) (drop (at + 1) text) ≡ true =
    ap₂ (λ u v. u && not v) (eq-eqb (get_or text at 0) 13 e) (ne_eqb (get_or (drop (at + 1) text) 0 0) 10 (λ k. other (sym next ∙ k))) in
    byte-with text at h ∙ ap (λ v. cond v 10 (get_or text at 0)) lone

paired_byte : (text : List ℕ) (at : ℕ) → at < length text → get_or text at 0 ≡ 13 → get_or text (at + 1) 0 ≡ 10 → get_or (with_newlines text) at 0 ≡ 13
paired_byte text at h e follows =
    let next : get_or (drop (at + 1) text) 0 0 ≡ get_or text (at + 1) 0 = get_or-drop (at + 1) text 0 0 ∙ (let n : at + 1 + 0 ≡ at + 1 = omega arith in ap (λ k. get_or text k 0) n) in
    let lone : is_lone_return (get_or text at 0) (drop (at + 1) text) ≡ false =
    ap₂ (λ u v. u && not v) (eq-eqb (get_or text at 0) 13 e) (eq-eqb (get_or (drop (at + 1) text) 0 0) 10 (next ∙ follows)) in
    byte-with text at h ∙ ap (λ v. cond v 10 (get_or text at 0)) lone ∙ e

-- ---- one step on

-- how far a position is
lines_within : (text : List ℕ) (at : ℕ) → at ≤ length text → count_by is_newline (upto text at) ≤ at
lines_within text at h = omega (arith, count_by-le-length is_newline (upto text at), length-take-le at (with_newlines text) (omega (arith, h, length-with text)))

columns_within : (encoding : PositionEncoding) (text : List ℕ) (at : ℕ) → at ≤ length text → IsUtf8 (after_last is_newline (upto text at)) → width encoding (after_last is_newline (upto text at)) ≤ at
columns_within encoding text at h u =
    let xs = upto text at in
    omega (arith, few_columns encoding (after_last is_newline xs) u, length-drop (length xs - suffix_len q xs) xs, length-take-le at (with_newlines text) (omega (arith, h, length-with text)))

position_newline : (encoding : PositionEncoding) (text : List ℕ) (at : ℕ) → at < length text → get_or (with_newlines text) at 0 ≡ 10 → position_of encoding text (at + 1) ≡ (count_by is_newline (upto text at) + 1, 0)
position_newline encoding text at h e =
    let more : upto text (at + 1) ≡ upto text at ++ (10 ∷ []) = upto_more text at h ∙ ap (λ b. upto text at ++ (b ∷ [])) e in
    ap₂ (λ n m. (n, m))
    (ap (count_by is_newline) more ∙ count_newline (upto text at))
    (ap (λ xs. width encoding (after_last is_newline xs)) more ∙ ap (width encoding) (after_newline (upto text at)) ∙ no_columns encoding)

line_newline : (text : List ℕ) (at : ℕ) → at < length text → get_or (with_newlines text) at 0 ≡ 10 → IsUtf8 (after_last is_newline (upto text (at + 1)))
line_newline text at h e =
    let more : upto text (at + 1) ≡ upto text at ++ (10 ∷ []) = upto_more text at h ∙ ap (λ b. upto text at ++ (b ∷ [])) e in
    subst IsUtf8 (sym (ap (after_last is_newline) more ∙ after_newline (upto text at))) IsUtf8-nil

-- where a part of a line ends
pub record PartOn (encoding : PositionEncoding) (text : List ℕ) (at : ℕ) (place : ℕ × ℕ) (part : List ℕ) : Type 0 where
  pub begins : place ≡ position_of encoding text at
  pub ends : IsAt encoding text (at + length part) (place.0, min (place.1 + width encoding part) (2 ^ 64 - 1)) false

pub part_on : (encoding : PositionEncoding) (text : List ℕ) (at : ℕ) (place : ℕ × ℕ) (returned : Bool) (part rest : List ℕ) → IsAt encoding text at place returned
    → length text < 2 ^ 64 → IsUtf8 part → drop at text ≡ part ++ rest → 0 < length part → ((i : ℕ) → i < length part → ends_line (get_or part i 0) ≡ false)
    → PartOn encoding text at place part
part_on encoding text at place returned [] rest here small u e some none = absurd (omega (arith, some))
part_on encoding text at place returned (b ∷ bs) rest here small u e some none =
    let part = b ∷ bs in
    let W = with_newlines text in
    let end = at + length part in
    let within : end ≤ length text = omega (arith, here.within, ap length e, length-drop at text, length-append part rest) in
    let start : get_or text at 0 ≡ b = first_is text at b (bs ++ rest) e in
    let begins : place ≡ position_of encoding text at = here.other (λ k. eqb-false b 10 (newline_not b (none 0 (omega arith))) (sym start ∙ k)) in
    let upto_end : upto text end ≡ upto text at ++ part = upto_part text at part rest e (λ i l. return_not (get_or part i 0) (none i l)) in
    let no_newline : (i : ℕ) → i < length part → is_newline (get_or part i 0) ≡ false = λ i l. newline_not (get_or part i 0) (none i l) in
    let behind : after_last is_newline (upto text end) ≡ after_last is_newline (upto text at) ++ part = ap (after_last is_newline) upto_end ∙ after_part (upto text at) part no_newline in
    let line : IsUtf8 (after_last is_newline (upto text end)) = subst IsUtf8 (sym behind) (IsUtf8-append (after_last is_newline (upto text at)) part here.line u) in
    let counted : count_by is_newline (upto text end) ≡ place.0 = ap (count_by is_newline) upto_end ∙ count_part (upto text at) part no_newline ∙ sym (ap (λ p. p.0) begins) in
    let columns : width encoding (after_last is_newline (upto text end)) ≡ place.1 + width encoding part =
    ap (width encoding) behind ∙ width-append encoding (after_last is_newline (upto text at)) part here.line ∙ ap (λ n. n + width encoding part) (sym (ap (λ p. p.1) begins)) in
    let fits : min (place.1 + width encoding part) (2 ^ 64 - 1) ≡ place.1 + width encoding part = omega (arith, columns, columns_within encoding text end within line, within, small) in
    let there : (place.0, min (place.1 + width encoding part) (2 ^ 64 - 1)) ≡ position_of encoding text end = ap₂ (λ n m. (n, m)) (sym counted) (fits ∙ sym columns) in
    record {
      begins = begins;
      ends = record {
        within = within;
        line = line;
        other = λ _. there;
        newline = λ k.
            position_newline encoding text end (by_byte text end 9 k) (newline_byte text end (by_byte text end 9 k) k) ∙ ap (λ n. (n + 1, 0)) counted;
      };
    }

-- a return in front of a newline ends no line yet
paired_on : (text : List ℕ) (at : ℕ) → at < length text → get_or text at 0 ≡ 13 → get_or text (at + 1) 0 ≡ 10 → upto text (at + 1) ≡ upto text at ++ (13 ∷ [])
paired_on text at h e k = upto_more text at h ∙ ap (λ b. upto text at ++ (b ∷ [])) (paired_byte text at h e k)

low_return : IsAscii (13 ∷ [])
low_return zero = omega arith
low_return (suc i) = omega arith

line_paired : (text : List ℕ) (at : ℕ) → at < length text → get_or text at 0 ≡ 13 → get_or text (at + 1) 0 ≡ 10 → IsUtf8 (after_last is_newline (upto text at)) → IsUtf8 (after_last is_newline (upto text (at + 1)))
line_paired text at h e k u =
    subst IsUtf8 (sym (ap (after_last is_newline) (paired_on text at h e k) ∙ after_other (upto text at) 13 refl)) (IsUtf8-append (after_last is_newline (upto text at)) (13 ∷ []) u (IsUtf8-from_ascii _ low_return))

-- behind U+000D
pub return_on : (encoding : PositionEncoding) (text : List ℕ) (at : ℕ) (place : ℕ × ℕ) (returned : Bool) (rest : List ℕ) → IsAt encoding text at place returned
    → length text < 2 ^ 64 → drop at text ≡ 13 ∷ rest → IsAt encoding text (at + 1) (min (place.0 + 1) (2 ^ 64 - 1), 0) true
return_on encoding text at place returned rest here small e =
    let h : at < length text = in_text text at 13 rest e in
    let start : get_or text at 0 ≡ 13 = first_is text at 13 rest e in
    let begins : place ≡ position_of encoding text at = here.other (λ k. omega (arith, start, k)) in
    let line_is : place.0 ≡ count_by is_newline (upto text at) = ap (λ p. p.0) begins in
    let low : count_by is_newline (upto text at) ≤ at = lines_within text at (omega (arith, h)) in
    let fits : min (place.0 + 1) (2 ^ 64 - 1) ≡ count_by is_newline (upto text at) + 1 = omega (arith, line_is, low, small, h) in
    let there : ◌≡◌ {A = ℕ × ℕ} (min (place.0 + 1) (2 ^ 64 - 1), 0) (count_by is_newline (upto text at) + 1, 0) = ap {B = ℕ × ℕ} (λ n. (n, 0)) fits in
    record {
      within = omega (arith, h);
      line = elim (cases_eq (get_or text (at + 1) 0) 10) [
        | inl k ↦ line_paired text at h start k here.line
        | inr k ↦ line_newline text at h (lone_byte text at h start k)
      ];
      other = λ k. there ∙ sym (position_newline encoding text at h (lone_byte text at h start k));
      newline = λ k.
          let more : at + 1 < length text = by_byte text (at + 1) 9 k in
          let same : count_by is_newline (upto text (at + 1)) ≡ count_by is_newline (upto text at) = ap (count_by is_newline) (paired_on text at h start k) ∙ count_other (upto text at) 13 refl in
          let behind : position_of encoding text (at + 1 + 1) ≡ (count_by is_newline (upto text (at + 1)) + 1, 0) = position_newline encoding text (at + 1) more (newline_byte text (at + 1) more k) in
          let on : ◌≡◌ {A = ℕ × ℕ} (count_by is_newline (upto text (at + 1)) + 1, 0) (min (place.0 + 1) (2 ^ 64 - 1), 0) = ap {B = ℕ × ℕ} (λ n. (n + 1, 0)) same ∙ sym there in
          behind ∙ on;
    }

-- behind U+000A
pub newline_on : (encoding : PositionEncoding) (text : List ℕ) (at : ℕ) (place : ℕ × ℕ) (returned : Bool) (rest : List ℕ) → IsAt encoding text at place returned
    → length text < 2 ^ 64 → drop at text ≡ 10 ∷ rest → IsAt encoding text (at + 1) (cond returned place (min (place.0 + 1) (2 ^ 64 - 1), 0)) false
newline_on encoding text at place returned rest here small e =
    let h : at < length text = in_text text at 10 rest e in
    let start : get_or text at 0 ≡ 10 = first_is text at 10 rest e in
    let known : position_of encoding text (at + 1) ≡ (count_by is_newline (upto text at) + 1, 0) = position_newline encoding text at h (newline_byte text at h start) in
    let low : count_by is_newline (upto text at) ≤ at = lines_within text at (omega (arith, h)) in
    let there : cond returned place (min (place.0 + 1) (2 ^ 64 - 1), 0) ≡ position_of encoding text (at + 1) =
    elim returned as (λ v. position_of encoding text (at + 1) ≡ cond v place (place.0 + 1, 0) → cond v place (min (place.0 + 1) (2 ^ 64 - 1), 0) ≡ position_of encoding text (at + 1)) [
      | true ↦ λ p. sym p
      | false ↦ λ p. (let n : min (place.0 + 1) (2 ^ 64 - 1) ≡ place.0 + 1 = omega (arith, ap {B = ℕ} (λ r. r.0) (sym p ∙ known), low, small, h) in ap (λ n. (n, 0)) n) ∙ sym p
    ] (here.newline start) in
    record {
      within = omega (arith, h);
      line = line_newline text at h (newline_byte text at h start);
      other = λ _. there;
      newline = λ k.
          let more : at + 1 < length text = by_byte text (at + 1) 9 k in
          position_newline encoding text (at + 1) more (newline_byte text (at + 1) more k) ∙ ap (λ p. (p.0 + 1, 0)) (sym there);
    }

-- where a row begins: at the nearest place that has a position
pub starts_at : (encoding : PositionEncoding) (text : List ℕ) (at : ℕ) (place : ℕ × ℕ) → IsUtf8 text → IsCharBoundary text at
    → (HasPosition text at → place ≡ position_of encoding text at) → ((n : ℕ) → IsNearestPlace text at n → place ≡ position_of encoding text n) → IsAt encoding text at place false
starts_at encoding text at place u fits same nearest = record {
  within = fits.0;
  line =
      let xs = upto text at in
      let b : ℕ = at - length (after_last is_newline xs) in
      let short : length (after_last is_newline xs) ≤ at = omega (arith, length-drop (length xs - suffix_len q xs) xs, length-take-le at (with_newlines text) (omega (arith, fits.0, length-with text))) in
      let its = front_of text at (count_by is_newline xs) b u fits.0 (record { counted = refl; front = omega (arith, short) }) in
      subst IsUtf8 its.same (IsUtf8-between text b at u its.within its.fits fits);
  other = λ k. same (fits, λ broken. k broken.1);
  newline = λ k.
      let h : at < length text = by_byte text at 9 k in
      position_newline encoding text at h (newline_byte text at h k)
      ∙ (elim (cases_eq (get_or text (at - 1) 0) 13) [
        | inr m ↦ ap (λ p. (p.0 + 1, 0)) (sym (same (fits, λ broken. m broken.0)))
        | inl m ↦
            let some : 0 < at = elim (cases_lt 0 at) [ inl l ↦ l | inr g ↦ let none : at ≡ 0 = omega (arith, g) in absurd (omega (arith, ap {B = ℕ} (λ n. get_or text (n - 1) 0) none, ap {B = ℕ} (λ n. get_or text n 0) none, k, m)) ] in
            let up : at - 1 + 1 ≡ at = omega (arith, some) in
            let before : place ≡ position_of encoding text (at - 1) = nearest (at - 1) (nearest_before text at at (omega arith) fits (λ i l g. absurd (omega (arith, l, g))) some (m, k)) in
            let paired : upto text at ≡ upto text (at - 1) ++ (13 ∷ []) = ap (upto text) (sym up) ∙ paired_on text (at - 1) (omega (arith, h)) m (ap (λ n. get_or text n 0) up ∙ k) in
            ap (λ n. (n + 1, 0)) (ap (count_by is_newline) paired ∙ count_other (upto text (at - 1)) 13 refl) ∙ ap (λ p. (p.0 + 1, 0)) (sym before)
      ]);
}

-- behind a byte that ends a line
pub end_byte : (b : ℕ) → ends_line b ≡ true → (b ≡ 10) ⊎ (b ≡ 13)
end_byte b e =
    elim (cases_eq b 10) [
      | inl n ↦ inl n
      | inr m ↦ inr (eqb-true b 13 (sym (ap (λ v. v || eqb b 13) (ne_eqb b 10 m)) ∙ e))
    ]

pub ended_on : (encoding : PositionEncoding) (text : List ℕ) (at b : ℕ) (place : ℕ × ℕ) (rest : List ℕ) → IsAt encoding text at place true
    → length text < 2 ^ 64 → drop at text ≡ b ∷ rest → b ≡ 10 → IsAt encoding text (at + 1) place false
ended_on encoding text at b place rest here small e is = newline_on encoding text at place true rest here small (e ∙ ap (λ c. c ∷ rest) is)

pub end_on : (encoding : PositionEncoding) (text : List ℕ) (at b : ℕ) (place : ℕ × ℕ) (returned : Bool) (rest : List ℕ) → IsAt encoding text at place returned
    → length text < 2 ^ 64 → drop at text ≡ b ∷ rest → ends_line b ≡ true → (returned ≡ true → b ≡ 10 → ⊥) → IsAt encoding text (at + 1) (min (place.0 + 1) (2 ^ 64 - 1), 0) (eqb b 13)
end_on encoding text at b place true rest here small e ends first =
    elim (end_byte b ends) [
      | inl n ↦ absurd (first refl n)
      | inr r ↦ subst (IsAt encoding text (at + 1) (min (place.0 + 1) (2 ^ 64 - 1), 0)) (sym (eq-eqb b 13 r)) (return_on encoding text at place true rest here small (e ∙ ap (λ c. c ∷ rest) r))
    ]
end_on encoding text at b place false rest here small e ends first =
    elim (end_byte b ends) [
      | inl n ↦ subst (IsAt encoding text (at + 1) (min (place.0 + 1) (2 ^ 64 - 1), 0)) (sym (ne_eqb b 13 (λ r. omega (arith, n, r)))) (newline_on encoding text at place false rest here small (e ∙ ap (λ c. c ∷ rest) n))
      | inr r ↦ subst (IsAt encoding text (at + 1) (min (place.0 + 1) (2 ^ 64 - 1), 0)) (sym (eq-eqb b 13 r)) (return_on encoding text at place false rest here small (e ∙ ap (λ c. c ∷ rest) r))
    ]
