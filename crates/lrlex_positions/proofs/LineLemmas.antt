-- A text whose lone returns are newlines.
use Rattle.std.proofs.Common.{◌≡◌, ◌⊎◌, inl, inr, ℕ, zero, suc, ◌+◌, ◌-◌, ◌<◌, ◌≤◌, Bool, true, false, not, cond, ◌&&◌, ◌||◌, eqb, List, [], ◌∷◌, ◌++◌, length, take, drop, get_or, refl, sym, ◌∙◌, ap, ap₂, subst, arith}
use Rattle.std.specs.List.{count_by, after_last, position_or_len, suffix_len}
use Rattle.std.proofs.lemmas.Bool.{cases_eq, cases_lt, and_parts, eqb-true, eqb-false, eq-eqb, ne_eqb, not-true, not-false}
use Rattle.std.proofs.lemmas.List.Sums.{sum_by-cons, count_by_more_yes, count_by_more_no, position_or_len_is, suffix_len-le-length, suffix_len-take_no, suffix_len-take_yes}
use Rattle.std.specs.Str.{IsUtf8, IsAscii}
use Rattle.std.proofs.Math.Utf8.{encode, encodes, scalar, scalars}
use Rattle.std.proofs.lemmas.List.{append-nil, get_or-drop, get_or-take, get_or_append_left, get_or-append_right, length-append, length-drop, length-take-le, drop-drop, take_all, take_more}
use Rattle.lrlex_base.specs.Edits.{edited}
use Rattle.lrlex_base.specs.Spans.{span}
use Rattle.std.proofs.lemmas.Str.{IsUtf8-append, IsUtf8-nil, IsUtf8-encode, IsUtf8-from_ascii, NoCharPasses-byte, encode_ascii}
use Rattle.lrlex_base.specs.Places.{is_newline}
use Rattle.lrlex_positions.specs.Lines.{is_lone_return, with_newlines, IsLine, IsLineOf, AreLinesOf}
use Rattle.lrlex_positions.specs.declared.lines.Lines.{Lines}
use Rattle.lrlex_positions.specs.declared.lines.Lines.TheVariants.{OfNewlines, Kept, Walked}
use Rattle.lrlex_positions.proofs.ColumnLemmas.{longer}

bool_cases : (b : Bool) → (b ≡ true) ⊎ (b ≡ false)
bool_cases true = inl refl
bool_cases false = inr refl

pub length-with : (text : List ℕ) → length (with_newlines text) ≡ length text
length-with [] = refl
length-with (b ∷ bs) = ap suc (length-with bs)

pub drop-with : (n : ℕ) (text : List ℕ) → drop n (with_newlines text) ≡ with_newlines (drop n text)
drop-with zero text = refl
drop-with (suc n) [] = refl
drop-with (suc n) (b ∷ bs) = drop-with n bs

-- a front without newlines is that of the text
kept : (b : ℕ) (v : Bool) → is_newline (cond v 10 b) ≡ false → cond v 10 b ≡ b
kept b true e = absurd (eqb-false 10 10 e refl)
kept b false e = refl

pub front_same : (text : List ℕ) (n : ℕ) → count_by is_newline (take n (with_newlines text)) ≡ 0 → take n (with_newlines text) ≡ take n text
front_same text zero e = refl
front_same [] (suc n) e = refl
front_same (b ∷ bs) (suc n) e =
    let x = cond (is_lone_return b bs) 10 b in
    let whole = sum_by-cons (λ c. cond (is_newline c) 1 0) x (take n (with_newlines bs)) in
    let rest : count_by is_newline (take n (with_newlines bs)) ≡ 0 = omega (arith, whole, e) in
    elim (bool_cases (is_newline x)) [
      | inl y ↦ absurd (omega (arith, whole, e, ap {B = ℕ} (λ v. cond v 1 0) y))
      | inr k ↦ ap₂ (λ c cs. c ∷ cs) (kept b (is_lone_return b bs) k) (front_same bs n rest)
    ]

-- a lone return is a return before no newline, and any other is before one
pub lone_is : (b : ℕ) (bs : List ℕ) → is_lone_return b bs ≡ true → (b ≡ 13) × (get_or bs 0 0 ≡ 10 → ⊥)
lone_is b bs e =
    elim (bool_cases (eqb b 13)) [
      | inl y ↦
          let after : not (eqb (get_or bs 0 0) 10) ≡ true = subst (λ v. (v && not (eqb (get_or bs 0 0) 10)) ≡ true) y e in
          (eqb-true b 13 y, eqb-false (get_or bs 0 0) 10 (not-true (eqb (get_or bs 0 0) 10) after))
      | inr n ↦ let wrong : false ≡ true = subst (λ v. (v && not (eqb (get_or bs 0 0) 10)) ≡ true) n e in cc
    ]

lone_not : (b : ℕ) (bs : List ℕ) → is_lone_return b bs ≡ false → b ≡ 13 → get_or bs 0 0 ≡ 10
lone_not b bs e h =
    let after : not (eqb (get_or bs 0 0) 10) ≡ false = subst (λ v. (v && not (eqb (get_or bs 0 0) 10)) ≡ false) (eq-eqb b 13 h) e in
    eqb-true (get_or bs 0 0) 10 (not-false (eqb (get_or bs 0 0) 10) after)

-- what stands where it has a newline
head_origin : (b : ℕ) (bs : List ℕ) (v : Bool) → is_lone_return b bs ≡ v → cond v 10 b ≡ 10 → (b ≡ 10) ⊎ ((b ≡ 13) × (get_or bs 0 0 ≡ 10 → ⊥))
head_origin b bs true e h = inr (lone_is b bs e)
head_origin b bs false e h = inl h

pub origin : (text : List ℕ) (i : ℕ) → get_or (with_newlines text) i 0 ≡ 10 → (get_or text i 0 ≡ 10) ⊎ ((get_or text i 0 ≡ 13) × (get_or text (i + 1) 0 ≡ 10 → ⊥))
origin [] i h = absurd (omega (arith, h))
origin (b ∷ bs) zero h = head_origin b bs (is_lone_return b bs) refl h
origin (b ∷ bs) (suc i) h = let up : suc i + 1 ≡ suc (i + 1) = omega arith in
    elim (origin bs i h) [ inl l ↦ inl l | inr r ↦ inr (r.0, λ k. r.1 (ap (λ n. get_or (b ∷ bs) n 0) (sym up) ∙ k)) ]

-- a newline stays one
head_newline : (b : ℕ) (bs : List ℕ) (v : Bool) → is_lone_return b bs ≡ v → b ≡ 10 → cond v 10 b ≡ 10
head_newline b bs true e h = refl
head_newline b bs false e h = h

pub newline_stays : (text : List ℕ) (i : ℕ) → get_or text i 0 ≡ 10 → get_or (with_newlines text) i 0 ≡ 10
newline_stays [] i h = h
newline_stays (b ∷ bs) zero h = head_newline b bs (is_lone_return b bs) refl h
newline_stays (b ∷ bs) (suc i) h = newline_stays bs i h

-- a return that stays one is before a newline
head_pair : (b : ℕ) (bs : List ℕ) (v : Bool) → is_lone_return b bs ≡ v → b ≡ 13 → (cond v 10 b ≡ 10 → ⊥) → get_or bs 0 0 ≡ 10
head_pair b bs true e h k = absurd (k refl)
head_pair b bs false e h k = lone_not b bs e h

pub pair : (text : List ℕ) (i : ℕ) → get_or text i 0 ≡ 13 → (get_or (with_newlines text) i 0 ≡ 10 → ⊥) → get_or text (i + 1) 0 ≡ 10
pair [] i h k = absurd (omega (arith, h))
pair (b ∷ bs) zero h k = head_pair b bs (is_lone_return b bs) refl h k
pair (b ∷ bs) (suc i) h k = let up : suc i + 1 ≡ suc (i + 1) = omega arith in ap (λ n. get_or (b ∷ bs) n 0) up ∙ pair bs i h k

-- a text without lone returns stays as it is
pub none_lone : (text : List ℕ) → ((i : ℕ) → i < length text → is_lone_return (get_or text i 0) (drop (i + 1) text) ≡ false) → with_newlines text ≡ text
none_lone [] h = refl
none_lone (b ∷ bs) h =
    let here : is_lone_return b bs ≡ false = h 0 (omega arith) in
    let there : (i : ℕ) → i < length bs → is_lone_return (get_or bs i 0) (drop (i + 1) bs) ≡ false =
    λ i l. let up : suc i + 1 ≡ suc (i + 1) = omega arith in
    sym (ap (λ n. is_lone_return (get_or bs i 0) (drop n (b ∷ bs))) up) ∙ h (suc i) (omega (arith, l)) in
    ap₂ (λ c cs. c ∷ cs) (ap (λ v. cond v 10 b) here) (none_lone bs there)

-- a byte of it
pub byte-with : (text : List ℕ) (i : ℕ) → i < length text → get_or (with_newlines text) i 0 ≡ cond (is_lone_return (get_or text i 0) (drop (i + 1) text)) 10 (get_or text i 0)
byte-with [] i h = absurd (omega (arith, h))
byte-with (b ∷ bs) zero h = refl
byte-with (b ∷ bs) (suc i) h =
    let up : suc i + 1 ≡ suc (i + 1) = omega arith in
    byte-with bs i (omega (arith, h)) ∙ ap (λ n. cond (is_lone_return (get_or bs i 0) (drop n (b ∷ bs))) 10 (get_or bs i 0)) (sym up)

-- what has no return stays, and so it is UTF-8
with-append : (xs rest : List ℕ) → ((i : ℕ) → i < length xs → get_or xs i 0 ≡ 13 → ⊥) → with_newlines (xs ++ rest) ≡ xs ++ with_newlines rest
with-append [] rest h = refl
with-append (x ∷ xs) rest h =
    let other : is_lone_return x (xs ++ rest) ≡ false = ap (λ v. v && not (is_newline (get_or (xs ++ rest) 0 0))) (ne_eqb x 13 (h 0 (omega arith))) in
    ap₂ (λ c cs. c ∷ cs) (ap (λ v. cond v 10 x) other) (with-append xs rest (λ i l. h (suc i) (omega (arith, l))))

-- the bytes of another character are no returns
no_return : (c : ℕ) → (c ≡ 13 → ⊥) → (i : ℕ) → i < length (encode c) → get_or (encode c) i 0 ≡ 13 → ⊥
no_return c h i l e =
    eqb-false (get_or (encode c) i 0) 13
    (NoCharPasses-byte (λ x. eqb x 13) (encode c) i (c ∷ [], append-nil (encode c), (ne_eqb c 13 h, tt)) l (omega (arith, e))) e

low_two : (v : Bool) → IsAscii (cond v 10 13 ∷ [])
low_two true zero = omega arith
low_two true (suc i) = omega arith
low_two false zero = omega arith
low_two false (suc i) = omega arith

pub utf8_with : (text : List ℕ) → IsUtf8 text → IsUtf8 (with_newlines text)
utf8_with text u = subst (λ t. IsUtf8 (with_newlines t)) u.1.1 (by u.0 u.1.0)
  where
    by : (cs : List ℕ) → scalars cs ≡ true → IsUtf8 (with_newlines (encodes cs))
    by [] s = IsUtf8-nil
    by (c ∷ cs) s =
        let parts = and_parts (scalar c) (scalars cs) s in
        let rest = by cs parts.1 in
        elim (cases_eq c 13) [
          | inl e ↦
              let bytes : encode c ≡ 13 ∷ [] = ap encode e ∙ encode_ascii 13 (omega arith) in
              let v = is_lone_return 13 (encodes cs) in
              subst (λ xs. IsUtf8 (with_newlines (xs ++ encodes cs))) (sym bytes) (IsUtf8-append (cond v 10 13 ∷ []) (with_newlines (encodes cs)) (IsUtf8-from_ascii _ (low_two v)) rest)
          | inr n ↦ subst IsUtf8 (sym (with-append (encode c) (encodes cs) (no_return c n))) (IsUtf8-append (encode c) (with_newlines (encodes cs)) (IsUtf8-encode c parts.0) rest)
        ]

-- ---- a text after an edit

lone_at : (text : List ℕ) (i : ℕ) → is_lone_return (get_or text i 0) (drop (i + 1) text) ≡ (eqb (get_or text i 0) 13 && not (is_newline (get_or text (i + 1) 0)))
lone_at text i =
    let next : get_or (drop (i + 1) text) 0 0 ≡ get_or text (i + 1) 0 = get_or-drop (i + 1) text 0 0 ∙ (let e : i + 1 + 0 ≡ i + 1 = omega arith in ap (λ n. get_or text n 0) e) in
    ap (λ c. eqb (get_or text i 0) 13 && not (is_newline c)) next

lone_same : (text old : List ℕ) (i j : ℕ) → get_or text i 0 ≡ get_or old j 0 → get_or text (i + 1) 0 ≡ get_or old (j + 1) 0
    → is_lone_return (get_or old j 0) (drop (j + 1) old) ≡ false → is_lone_return (get_or text i 0) (drop (i + 1) text) ≡ false
lone_same text old i j one two e = lone_at text i ∙ ap₂ (λ b c. eqb b 13 && not (is_newline c)) one two ∙ sym (lone_at old j) ∙ e

-- a text that stays as it is has none
stays_none : (text : List ℕ) (i : ℕ) → with_newlines text ≡ text → i < length text → is_lone_return (get_or text i 0) (drop (i + 1) text) ≡ false
stays_none text i e h =
    let v = is_lone_return (get_or text i 0) (drop (i + 1) text) in
    elim (bool_cases v) [
      | inr n ↦ n
      | inl y ↦
          let b : get_or text i 0 ≡ 13 = (lone_is (get_or text i 0) (drop (i + 1) text) y).0 in
          let ten : get_or text i 0 ≡ 10 = ap (λ xs. get_or xs i 0) (sym e) ∙ byte-with text i h ∙ ap (λ w. cond w 10 (get_or text i 0)) y in
          absurd (omega (arith, b, ten))
    ]

pub none_after_edit : (old put text : List ℕ) (from to : ℕ) → with_newlines old ≡ old → from ≤ to → to ≤ length old → text ≡ edited old (span from to) put
    → ((i : ℕ) → from - 1 ≤ i → i < from + length put → is_lone_return (get_or text i 0) (drop (i + 1) text) ≡ false) → with_newlines text ≡ text
none_after_edit old put text from to none order within is window =
    let rest = put ++ drop to old in
    let front : length (take from old) ≡ from = length-take-le from old (omega (arith, order, within)) in
    let before : (j : ℕ) → j < from → get_or text j 0 ≡ get_or old j 0 =
    λ j l. ap (λ xs. get_or xs j 0) is ∙ get_or_append_left (take from old) rest 0 j (omega (arith, front, l)) ∙ get_or-take from old j 0 l in
    let after : (j : ℕ) → from + length put ≤ j → get_or text j 0 ≡ get_or old (j - (from + length put) + to) 0 =
    λ j l.
    let k = j - from - length put in
    let at : to + k ≡ j - (from + length put) + to = omega (arith, l) in
    ap (λ xs. get_or xs j 0) is ∙ get_or-append_right (take from old) rest from j 0 front (omega (arith, l))
    ∙ get_or-append_right put (drop to old) (length put) (j - from) 0 refl (omega (arith, l)) ∙ get_or-drop to old k 0 ∙ ap (λ n. get_or old n 0) at in
    let long : length text ≡ from + length put + (length old - to) =
    omega (arith, ap length is, front, length-append (take from old) rest, length-append put (drop to old), length-drop to old) in
    none_lone text (λ i l.
    elim (cases_lt (i + 1) from) [
      | inl low ↦ lone_same text old i i (before i (omega (arith, low))) (before (i + 1) low) (stays_none old i none (omega (arith, low, order, within)))
      | inr high ↦
          elim (cases_lt i (from + length put)) [
            | inl inside ↦ window i (omega (arith, high)) inside
            | inr beyond ↦
                let j = i - (from + length put) + to in
                let next : i + 1 - (from + length put) + to ≡ j + 1 = omega (arith, beyond) in
                lone_same text old i j (after i beyond) (after (i + 1) (omega (arith, beyond)) ∙ ap (λ n. get_or old n 0) next) (stays_none old j none (omega (arith, l, long, beyond)))
          ]
    ])

-- ---- a cache that is fed line by line

-- a part without lone returns stays as it is
part_stays : (text : List ℕ) (n : ℕ) → n ≤ length text → ((i : ℕ) → i < n → is_lone_return (get_or text i 0) (drop (i + 1) text) ≡ false) → take n (with_newlines text) ≡ take n text
part_stays text zero h none = refl
part_stays [] (suc n) h none = refl
part_stays (b ∷ bs) (suc n) h none =
    let here : is_lone_return b bs ≡ false = none 0 (omega arith) in
    let there : (i : ℕ) → i < n → is_lone_return (get_or bs i 0) (drop (i + 1) bs) ≡ false =
    λ i l. let up : suc i + 1 ≡ suc (i + 1) = omega arith in
    sym (ap (λ n. is_lone_return (get_or bs i 0) (drop n (b ∷ bs))) up) ∙ none (suc i) (omega (arith, l)) in
    ap₂ (λ c cs. c ∷ cs) (ap (λ v. cond v 10 b) here) (part_stays bs n (omega (arith, h)) there)

pub fed_on : (text : List ℕ) (fed at : ℕ) → fed ≤ at → at ≤ length text → ((i : ℕ) → fed ≤ i → i < at → is_lone_return (get_or text i 0) (drop (i + 1) text) ≡ false)
    → take fed (with_newlines text) ++ take (at - fed) (drop fed text) ≡ take at (with_newlines text)
fed_on text fed at h within none =
    let W = with_newlines text in
    let rest = drop fed text in
    let low : (i : ℕ) → i < at - fed → is_lone_return (get_or rest i 0) (drop (i + 1) rest) ≡ false =
    λ i l.
    let there : fed + (i + 1) ≡ fed + i + 1 = omega arith in
    ap₂ is_lone_return (get_or-drop fed text i 0) (drop-drop (i + 1) fed text ∙ ap (λ n. drop n text) there) ∙ none (fed + i) (omega arith) (omega (arith, l)) in
    let same : take (at - fed) (drop fed text) ≡ take (at - fed) (drop fed W) =
    sym (part_stays rest (at - fed) (omega (arith, length-drop fed text, within)) low) ∙ ap (take (at - fed)) (sym (drop-with fed text)) in
    ap (λ xs. take fed W ++ xs) same ∙ sym (longer fed at W h)

pub fed_all : (text : List ℕ) (fed : ℕ) → fed ≤ length text → ((i : ℕ) → fed ≤ i → i < length text → is_lone_return (get_or text i 0) (drop (i + 1) text) ≡ false)
    → take fed (with_newlines text) ++ drop fed text ≡ with_newlines text
fed_all text fed h none =
    let all : take (length text - fed) (drop fed text) ≡ drop fed text = take_all (length text - fed) (drop fed text) (omega (arith, length-drop fed text)) in
    ap (λ xs. take fed (with_newlines text) ++ xs) (sym all) ∙ fed_on text fed (length text) h (omega arith) none ∙ take_all (length text) (with_newlines text) (omega (arith, length-with text))

pub fed_newline : (text : List ℕ) (at : ℕ) → at < length text → is_lone_return (get_or text at 0) (drop (at + 1) text) ≡ true → take at (with_newlines text) ++ (10 ∷ []) ≡ take (at + 1) (with_newlines text)
fed_newline text at h lone =
    let here : get_or (with_newlines text) at 0 ≡ 10 = byte-with text at h ∙ ap (λ v. cond v 10 (get_or text at 0)) lone in
    ap (λ c. take at (with_newlines text) ++ (c ∷ [])) (sym here) ∙ sym (take_more (with_newlines text) at 0 (omega (arith, h, length-with text)))

pub none_without : (text : List ℕ) → ((i : ℕ) → i < length text → get_or text i 0 ≡ 13 → ⊥) → with_newlines text ≡ text
none_without text h = none_lone text (λ i l. ap (λ v. v && not (is_newline (get_or (drop (i + 1) text) 0 0))) (ne_eqb (get_or text i 0) 13 (h i l)))

-- ---- a walk over the bytes

take_none : (xs : List ℕ) → take 0 xs ≡ []
take_none [] = refl
take_none (x ∷ xs) = refl

pub ends_with : (text : List ℕ) (i : ℕ) → i < length text → is_newline (get_or (with_newlines text) i 0) ≡ (eqb (get_or text i 0) 10 || is_lone_return (get_or text i 0) (drop (i + 1) text))
ends_with text i h = ap is_newline (byte-with text i h) ∙ by (get_or text i 0) (is_lone_return (get_or text i 0) (drop (i + 1) text))
  where
    right : (a : Bool) → true ≡ (a || true)
    right true = refl
    right false = refl

    left : (a : Bool) → a ≡ (a || false)
    left true = refl
    left false = refl

    by : (b : ℕ) (v : Bool) → is_newline (cond v 10 b) ≡ (eqb b 10 || v)
    by b true = right (eqb b 10)
    by b false = left (eqb b 10)

front_length : (xs : List ℕ) → length (after_last is_newline xs) ≡ suffix_len (λ c. not (is_newline c)) xs
front_length xs =
    let q : ℕ → Bool = λ c. not (is_newline c) in
    omega (arith, length-drop (length xs - suffix_len q xs) xs, suffix_len-le-length q xs)

pub line_start : (text : List ℕ) → IsLineOf text 0 0 0
line_start text = record { counted = sym (ap (count_by is_newline) (take_none (with_newlines text))); front = ap (λ xs. length (after_last is_newline xs)) (take_none (with_newlines text)) }

pub line_ends : (text : List ℕ) (i n b : ℕ) → i < length text → is_newline (get_or (with_newlines text) i 0) ≡ true → IsLineOf text i n b → IsLineOf text (i + 1) (n + 1) (i + 1)
line_ends text i n b h y line =
    let W = with_newlines text in
    let q : ℕ → Bool = λ c. not (is_newline c) in
    let in_lines : i < length W = omega (arith, h, length-with text) in
    let back : i + 1 - 1 ≡ i = omega arith in
    let stop : suffix_len q (take (i + 1) W) ≡ 0 = suffix_len-take_no q W (i + 1) 0 (omega arith) (omega (arith, in_lines)) (ap not (ap (λ j. is_newline (get_or W j 0)) back ∙ y)) in
    record {
      counted = omega (arith, line.counted, count_by_more_yes is_newline W i 0 in_lines y);
      front = omega (arith, front_length (take (i + 1) W), stop);
    }

pub line_goes_on : (text : List ℕ) (i n b : ℕ) → i < length text → is_newline (get_or (with_newlines text) i 0) ≡ false → IsLineOf text i n b → IsLineOf text (i + 1) n b
line_goes_on text i n b h f line =
    let W = with_newlines text in
    let q : ℕ → Bool = λ c. not (is_newline c) in
    let in_lines : i < length W = omega (arith, h, length-with text) in
    let back : i + 1 - 1 ≡ i = omega arith in
    let on : suffix_len q (take (i + 1) W) ≡ 1 + suffix_len q (take (i + 1 - 1) W) = suffix_len-take_yes q W (i + 1) 0 (omega arith) (omega (arith, in_lines)) (ap not (ap (λ j. is_newline (get_or W j 0)) back ∙ f)) in
    let same : suffix_len q (take (i + 1 - 1) W) ≡ suffix_len q (take i W) = ap (λ j. suffix_len q (take j W)) back in
    record {
      counted = omega (arith, line.counted, count_by_more_no is_newline W i 0 in_lines f);
      front = omega (arith, line.front, front_length (take (i + 1) W), front_length (take i W), on, same);
    }

-- the line that begins there
pub line_from : (text : List ℕ) (n b : ℕ) → b ≤ length text → IsLineOf text b n b → IsLine text n b (b + position_or_len is_newline (drop b (with_newlines text)))
line_from text n b h line = record { counted = sym line.counted; begins = omega (arith, line.front); end = refl; within = h }

-- the first byte that a line ends with
pub first_end : (text : List ℕ) (b at : ℕ) → b ≤ at → at ≤ length text → ((i : ℕ) → b ≤ i → i < at → is_newline (get_or (with_newlines text) i 0) ≡ false)
    → (at < length text → is_newline (get_or (with_newlines text) at 0) ≡ true) → at ≡ b + position_or_len is_newline (drop b (with_newlines text))
first_end text b at h within none here =
    let W = with_newlines text in
    let long : length (drop b W) ≡ length text - b = length-drop b W ∙ ap (λ n. n - b) (length-with text) in
    let first : position_or_len is_newline (drop b W) ≡ at - b =
    position_or_len_is is_newline (drop b W) (at - b) 0 (omega (arith, long, within))
    (λ k l. ap is_newline (get_or-drop b W k 0) ∙ none (b + k) (omega arith) (omega (arith, l, h)))
    (λ l. let there : b + (at - b) ≡ at = omega (arith, h) in ap is_newline (get_or-drop b W (at - b) 0) ∙ ap (λ n. is_newline (get_or W n 0)) there ∙ here (omega (arith, l, long))) in
    omega (arith, first, h)

-- ---- what is kept

abbrev tag : Lines → ℕ
tag OfNewlines = 0
tag (Kept breaks) = 1
tag Walked = 2

pub lines_of_newlines : (text : List ℕ) → with_newlines text ≡ text → AreLinesOf text OfNewlines
lines_of_newlines text is = (λ _. is, λ breaks e. absurd (omega (arith, ap {B = ℕ} tag e)))
