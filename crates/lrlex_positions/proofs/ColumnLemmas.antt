-- How many columns the parts of a line take.
use Rattle.std.proofs.Common.{◌≡◌, inl, inr, ℕ, ◌+◌, ◌-◌, ◌<◌, ◌≤◌, cond, nat_le, List, [], ◌∷◌, ◌++◌, length, take, drop, refl, sym, ◌∙◌, ap, subst, arith}
use Rattle.std.specs.Str.{chars, IsCharBoundary, IsUtf8}
use Rattle.std.proofs.Math.Utf8.{encode, encodes}
use Rattle.std.specs.Char.{len_utf8}
use Rattle.std.proofs.lemmas.Bool.{cases_lt, cond_both, leb-true, leb-false}
use Rattle.std.proofs.lemmas.List.{nil_from_length, length-append, take-append-drop, take-take, drop-take, length-take-le, length-drop, take_at, append-nil}
use Rattle.std.proofs.lemmas.List.Sums.{sum_by-append, sum_by-cons}
use Rattle.std.proofs.lemmas.Str.{chars-append, chars_past_char, encodes-chars, IsUtf8-between, IsUtf8-take, IsUtf8-drop, IsCharBoundary-past_char, drop_past_char, length-encode, chars-nil}
use Rattle.lrlex_positions.specs.Columns.{is_wide, units, width, IsLastColumn}
use Rattle.lrlex_positions.specs.declared.encoding.PositionEncoding.{PositionEncoding}
use Rattle.lrlex_positions.specs.declared.encoding.PositionEncoding.TheVariants.{Utf8, Utf16}

units-append : (xs ys : List ℕ) → units (xs ++ ys) ≡ units xs + units ys
units-append xs ys = omega (arith, length-append xs ys, sum_by-append (λ x. cond (is_wide x) 1 0) xs ys)

-- the columns of a text in two parts
pub width-append : (encoding : PositionEncoding) (xs ys : List ℕ) → IsUtf8 xs → width encoding (xs ++ ys) ≡ width encoding xs + width encoding ys
width-append Utf8 xs ys u = length-append xs ys
width-append Utf16 xs ys u = ap units (chars-append xs ys u) ∙ units-append (chars xs) (chars ys)

-- a text that takes no column is empty
pub no_width : (encoding : PositionEncoding) (xs : List ℕ) → IsUtf8 xs → width encoding xs ≡ 0 → length xs ≡ 0
no_width Utf8 xs u e = e
no_width Utf16 xs u e =
    let none : chars xs ≡ [] = nil_from_length (chars xs) (omega (arith, e)) in
    let same : encodes (chars xs) ≡ [] = ap encodes none in
    ap length (sym (encodes-chars xs u) ∙ same)

-- a longer front
pub longer : (i j : ℕ) (text : List ℕ) → i ≤ j → take j text ≡ take i text ++ take (j - i) (drop i text)
longer i j text h =
    let whole : j ≡ i + (j - i) = omega arith in
    sym (take-append-drop i (take j text)) ∙ ap (λ a. a ++ drop i (take j text)) (take-take i j text h)
    ∙ ap (λ b. take i text ++ b) (ap (λ n. drop i (take n text)) whole ∙ drop-take i (j - i) text)

pub front_width : (encoding : PositionEncoding) (line : List ℕ) (i j : ℕ) → IsUtf8 line → IsCharBoundary line i → i ≤ j
    → width encoding (take j line) ≡ width encoding (take i line) + width encoding (take (j - i) (drop i line))
front_width encoding line i j u fits h = ap (width encoding) (longer i j line h) ∙ width-append encoding (take i line) (take (j - i) (drop i line)) (IsUtf8-take line i u fits)

-- the units of a character
pub one_more : (c : ℕ) (cs : List ℕ) → units (c ∷ cs) ≡ 1 + cond (is_wide c) 1 0 + units cs
one_more c cs = omega (arith, sum_by-cons (λ x. cond (is_wide x) 1 0) c cs)

-- ---- a walk over the characters of a line

-- one character on
pub record Walked (line : List ℕ) (at c : ℕ) (rest : List ℕ) : Type 0 where
  pub fits : IsCharBoundary line (at + len_utf8 c)
  pub left : drop (at + len_utf8 c) line ≡ rest
  pub more : width Utf16 (take (at + len_utf8 c) line) ≡ width Utf16 (take at line) + (1 + cond (is_wide c) 1 0)

pub walk_more : (line : List ℕ) (at c : ℕ) (rest : List ℕ) → IsUtf8 line → IsCharBoundary line at → drop at line ≡ encode c ++ rest → Walked line at c rest
walk_more line at c rest u fits e =
    let n = len_utf8 c in
    let on : IsCharBoundary line (at + n) = IsCharBoundary-past_char line rest at c fits.0 (IsUtf8-drop line at u fits) e in
    let back : at + n - at ≡ n = omega arith in
    let between : take (at + n - at) (drop at line) ≡ encode c = ap (λ m. take m (drop at line)) back ∙ ap (take n) e ∙ take_at (encode c) rest n (length-encode c) in
    let good : IsUtf8 (encode c) = subst IsUtf8 between (IsUtf8-between line at (at + n) u (omega arith) fits on) in
    let one : chars (encode c) ≡ c ∷ [] = chars_past_char (encode c) [] c good (sym (append-nil (encode c))) ∙ ap (λ cs. c ∷ cs) chars-nil in
    let its : width Utf16 (take (at + n - at) (drop at line)) ≡ 1 + cond (is_wide c) 1 0 =
    ap (λ b. units (chars b)) between ∙ ap units one ∙ omega (arith, one_more c []) in
    record {
      fits = on;
      left = drop_past_char line rest at c e;
      more = front_width Utf16 line at (at + n) u fits (omega arith) ∙ ap (λ m. width Utf16 (take at line) + m) its;
    }

head_units : (c : ℕ) (cs xs ys : List ℕ) → c ∷ cs ≡ xs ++ ys → 0 < length xs → 1 + cond (is_wide c) 1 0 ≤ units xs
head_units c cs [] ys e h = absurd (omega arith)
head_units c cs (d ∷ xs) ys e h =
    let same : c ≡ d = cc in
    omega (arith, one_more d xs, ap {B = ℕ} (λ x. cond (is_wide x) 1 0) same)

-- a text has characters, unless it is empty
some_chars : (xs : List ℕ) → IsUtf8 xs → 0 < length xs → 0 < length (chars xs)
some_chars xs u h =
    elim (cases_lt 0 (length (chars xs))) [
      | inl l ↦ l
      | inr g ↦ absurd (omega (arith, h, no_width Utf16 xs u (let none : chars xs ≡ [] = nil_from_length (chars xs) (omega (arith, g)) in ap units none)))
    ]

-- a place behind the character takes its units too
walk_past : (line : List ℕ) (at c : ℕ) (rest : List ℕ) (i : ℕ) → IsUtf8 line → IsCharBoundary line at → drop at line ≡ encode c ++ rest → IsCharBoundary line i → at < i
    → width Utf16 (take at line) + (1 + cond (is_wide c) 1 0) ≤ width Utf16 (take i line)
walk_past line at c rest i u fits e there h =
    let s = take (i - at) (drop at line) in
    let good : IsUtf8 s = IsUtf8-between line at i u (omega arith) fits there in
    let long : length s ≡ i - at = length-take-le (i - at) (drop at line) (omega (arith, length-drop at line, there.0)) in
    let whole : c ∷ chars rest ≡ chars s ++ chars (drop (i - at) (drop at line)) =
    sym (chars_past_char (drop at line) rest c (IsUtf8-drop line at u fits) e) ∙ ap chars (sym (take-append-drop (i - at) (drop at line))) ∙ chars-append s (drop (i - at) (drop at line)) good in
    omega (arith, front_width Utf16 line at i u fits (omega arith), head_units c (chars rest) (chars s) (chars (drop (i - at) (drop at line))) whole (some_chars s good (omega (arith, long, h))))

-- where the walk stops
pub walk_stops : (line : List ℕ) (column at left c : ℕ) (rest : List ℕ) → IsUtf8 line → IsCharBoundary line at → width Utf16 (take at line) + left ≡ column → drop at line ≡ encode c ++ rest
    → left < 1 + cond (is_wide c) 1 0 → IsLastColumn Utf16 line column at
walk_stops line column at left c rest u fits e is h = record {
  boundary = fits;
  up_to = omega (arith, e);
  last = λ i there up.
      elim (cases_lt at i) [
        | inl l ↦ absurd (omega (arith, walk_past line at c rest i u fits is there l, up, e, h))
        | inr g ↦ g
      ];
}

pub walk_ends : (line : List ℕ) (column at left : ℕ) → IsCharBoundary line at → width Utf16 (take at line) + left ≡ column → length (drop at line) ≡ 0 → IsLastColumn Utf16 line column at
walk_ends line column at left fits e none = record {
  boundary = fits;
  up_to = omega (arith, e);
  last = λ i there up. omega (arith, there.0, none, length-drop at line);
}

-- how it begins, and how it goes on
no_front : (line : List ℕ) → take 0 line ≡ []
no_front [] = refl
no_front (x ∷ line) = refl

pub no_units : (column : ℕ) → units (chars []) + column ≡ column
no_units column =
    let none : units (chars []) ≡ 0 = ap units chars-nil in
    omega (arith, none)

pub units_of : (c n : ℕ) → (c < 0x1_0000 → n ≡ 1) → (0x1_0000 ≤ c → n ≡ 2) → n ≡ 1 + cond (is_wide c) 1 0
units_of c n one two =
    cond_both (nat_le 0x1_0000 c) 1 0 (λ m. n ≡ 1 + m) (λ wide. omega (arith, two (leb-true 0x1_0000 c wide))) (λ narrow. omega (arith, one (omega (arith, leb-false 0x1_0000 c narrow))))

pub moved_on : (line : List ℕ) (column at left c units bytes : ℕ) (rest : List ℕ) → bytes ≡ len_utf8 c → units ≡ 1 + cond (is_wide c) 1 0 → Walked line at c rest
    → width Utf16 (take at line) + left ≡ column → units ≤ left
    → IsCharBoundary line (at + bytes) × (drop (at + bytes) line ≡ rest) × (width Utf16 (take (at + bytes) line) + (left - units) ≡ column)
moved_on line column at left c units bytes rest is many on e h =
    let there : at + len_utf8 c ≡ at + bytes = omega (arith, is) in (
      subst (IsCharBoundary line) there on.fits,
      ap (λ n. drop n line) (sym there) ∙ on.left,
      omega (arith, ap (λ n. width Utf16 (take n line)) there, on.more, many, e, h),
    )
