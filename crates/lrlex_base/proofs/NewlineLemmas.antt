-- The places of newlines, and the lines between them.
use Rattle.std.proofs.Common.{◌≡◌, ◌⊎◌, inl, inr, ℕ, ◌+◌, ◌-◌, ◌<◌, ◌≤◌, Bool, true, false, not, cond, leb, List, [], ◌∷◌, ◌++◌, length, map, get_or, take, drop, refl, sym, ◌∙◌, ap, subst, arith, zero, suc, zero-add, add-one}
use Rattle.std.specs.List.{All, count_by, suffix_len, position_or_len, after_last}
use Rattle.std.specs.List.Sorted.{IsPartitionedBy}
use Rattle.std.proofs.lemmas.Grind.{get_or_default_zero}
use Rattle.std.proofs.Math.Seq.{get_or-append_seam}
use Rattle.std.proofs.lemmas.Bool.{le-leb, leb-true, eqb-true, cases_lt}
use Rattle.std.proofs.lemmas.List.Sums.{suffix_len-take_yes, suffix_len-take_no, suffix_len-le-length, count_by_more_yes, count_by_more_no, sum_by-cons, passes_at_first, prefix_len-le-length}
use Rattle.std.proofs.lemmas.List.{take-append-drop, take_more, length-take-le, get_or-append_right, get_or_append_left, map-append, length-append, length-drop, get_or-drop, drop-take, append-nil}
use Rattle.std.specs.Str.{IsUtf8, IsCharBoundary}
use Rattle.std.proofs.lemmas.Str.{IsCharBoundary-start, IsCharBoundary-after_ascii, IsCharBoundary-before_ascii, IsCharBoundary-end}
use Rattle.std.proofs.lemmas.List.Elements.{All-map, All-head, All-tail}
use Rattle.lrlex_base.specs.Places.{is_newline, newlines_from, starts_after}

-- the newlines of a text in two parts
pub newlines_from-append : (at : ℕ) (a b : List ℕ) → newlines_from at (a ++ b) ≡ newlines_from at a ++ newlines_from (at + length a) b
newlines_from-append at [] b = grind arith
newlines_from-append at (x ∷ a) b = grind (arith, newlines_from-append (at + 1) a b)

abbrev pub starts : ℕ → List ℕ → List ℕ
starts at a = starts_after (newlines_from at a)

pub starts-append : (at : ℕ) (a b : List ℕ) → starts at (a ++ b) ≡ starts at a ++ starts (at + length a) b
starts-append at a b = ap starts_after (newlines_from-append at a b) ∙ map-append _ _ _

-- there are as many as counting finds
length-starts : (at : ℕ) (a : List ℕ) → length (starts at a) ≡ count_by is_newline a
length-starts at [] = refl
length-starts at (x ∷ a) =
    let more = length-starts (at + 1) a in
    let N = newlines_from (at + 1) a in
    let first : length (starts at (x ∷ a)) ≡ cond (is_newline x) 1 0 + count_by is_newline a =
    elim (is_newline x) as (λ b. length (starts_after (cond b (at ∷ N) N)) ≡ cond b 1 0 + count_by is_newline a) [ true ↦ omega arith | false ↦ omega arith ] in
    first ∙ sym (sum_by-cons (λ c. cond (is_newline c) 1 0) x a)

-- each is behind the text's beginning and within it
first_within : (at n : ℕ) (S : List ℕ) (k : ℕ) → ((j : ℕ) → j < length S → (at + 1 < get_or S j 0) × (get_or S j 0 ≤ at + 1 + n)) → k < length ((at + 1) ∷ S)
    → (at < get_or ((at + 1) ∷ S) k 0) × (get_or ((at + 1) ∷ S) k 0 ≤ at + (1 + n))
first_within at n S zero h l = (omega arith, omega arith)
first_within at n S (suc k) h l = let i = h k (omega arith) in (omega arith, omega arith)

pub starts-within : (at : ℕ) (a : List ℕ) (k : ℕ) → k < length (starts at a) → (at < get_or (starts at a) k 0) × (get_or (starts at a) k 0 ≤ at + length a)
starts-within at [] k h = absurd (omega arith)
starts-within at (x ∷ a) k h =
    let N = newlines_from (at + 1) a in
    let n = length a in
    elim (is_newline x) as (λ b. (k : ℕ) → k < length (starts_after (cond b (at ∷ N) N)) → (at < get_or (starts_after (cond b (at ∷ N) N)) k 0) × (get_or (starts_after (cond b (at ∷ N) N)) k 0 ≤ at + length (x ∷ a))) [
      | true ↦ λ k h. let w = first_within at n (starts_after N) k (starts-within (at + 1) a) h in (w.0, omega arith)
      | false ↦ λ k h. let w = starts-within (at + 1) a k h in (omega arith, omega arith)
    ] k h

-- a text in two parts at a place
pub parts : (text : List ℕ) (at : ℕ) → at ≤ length text → starts 0 text ≡ starts 0 (take at text) ++ starts at (drop at text)
parts text at h =
    ap (starts 0) (sym (take-append-drop at text)) ∙ starts-append 0 (take at text) (drop at text)
    ∙ ap (λ n. starts 0 (take at text) ++ starts n (drop at text)) (zero-add _ ∙ length-take-le at text h)

abbrev pub begun : List ℕ → ℕ → ℕ
begun text at = count_by is_newline (take at text)

pub begun_length : (text : List ℕ) (at : ℕ) → length (starts 0 (take at text)) ≡ begun text at
begun_length text at = length-starts 0 (take at text)

pub begun_within : (text : List ℕ) (at : ℕ) → at ≤ length text → begun text at ≤ length (starts 0 text)
begun_within text at h =
    omega (arith, begun_length text at, ap length (parts text at h), length-append (starts 0 (take at text)) (starts at (drop at text)))

before_place : (text : List ℕ) (at k : ℕ) → at ≤ length text → k < begun text at → get_or (starts 0 text) k 0 ≤ at
before_place text at k h l =
    let m : k < length (starts 0 (take at text)) = omega (arith, begun_length text at) in
    let w = starts-within 0 (take at text) k m in
    let e : get_or (starts 0 text) k 0 ≡ get_or (starts 0 (take at text)) k 0 =
    ap (λ S. get_or S k 0) (parts text at h) ∙ get_or_append_left (starts 0 (take at text)) (starts at (drop at text)) 0 k m in
    omega (arith, length-take-le at text h)

behind_place : (text : List ℕ) (at k : ℕ) → at ≤ length text → begun text at ≤ k → k < length (starts 0 text) → at < get_or (starts 0 text) k 0
behind_place text at k h l m =
    let j = k - begun text at in
    let few : j < length (starts at (drop at text)) =
    omega (arith, begun_length text at, ap length (parts text at h), length-append (starts 0 (take at text)) (starts at (drop at text))) in
    let w = starts-within at (drop at text) j few in
    let e : get_or (starts 0 text) k 0 ≡ get_or (starts at (drop at text)) j 0 =
    ap (λ S. get_or S k 0) (parts text at h) ∙ get_or-append_right (starts 0 (take at text)) (starts at (drop at text)) (begun text at) k 0 (begun_length text at) l in
    omega arith

-- what halving asks of the places
pub starts_partitioned : (text : List ℕ) (at : ℕ) → at ≤ length text → IsPartitionedBy (λ s. leb s at) (starts_after (newlines_from 0 text))
starts_partitioned text at h i j d up below e =
    let in_list : get_or (starts 0 text) j d ≡ get_or (starts 0 text) j 0 = get_or_default_zero (starts 0 text) j d below in
    let low : get_or (starts 0 text) j 0 ≤ at = omega (arith, leb-true _ _ e) in
    let few : j < begun text at =
    elim (cases_lt j (begun text at)) [ inl l ↦ l | inr g ↦ absurd (omega (arith, behind_place text at j h g below)) ] in
    let same : get_or (starts 0 text) i d ≡ get_or (starts 0 text) i 0 = get_or_default_zero (starts 0 text) i d (omega arith) in
    let first : get_or (starts 0 text) i 0 ≤ at = before_place text at i h (omega arith) in
    le-leb _ _ (omega arith)

-- a point that halving finds is the number of lines begun
pub begun_is : (text : List ℕ) (at n : ℕ) → at ≤ length text → n ≤ length (starts_after (newlines_from 0 text))
    → ((k : ℕ) → k < n → leb (get_or (starts_after (newlines_from 0 text)) k 0) at ≡ true)
    → ((k : ℕ) → n ≤ k → k < length (starts_after (newlines_from 0 text)) → leb (get_or (starts_after (newlines_from 0 text)) k 0) at ≡ false)
    → n ≡ count_by is_newline (take at text)
begun_is text at n h bound low high =
    elim (cases_lt n (begun text at)) [
      | inl l ↦ let b = before_place text at n h l in
          let wrong : true ≡ false = sym (le-leb _ _ b) ∙ high n (omega arith) (omega (arith, begun_within text at h)) in cc
      | inr g ↦ elim (cases_lt (begun text at) n) [
        | inl m ↦ let b = behind_place text at (begun text at) h (omega arith) (omega arith) in absurd (omega (arith, leb-true _ _ (low (begun text at) m)))
        | inr m ↦ omega arith
      ]
    ]

sub-one_add : (k : ℕ) → k + 1 - 1 ≡ k
sub-one_add k = omega arith

bool_cases : (b : Bool) → (b ≡ true) ⊎ (b ≡ false)
bool_cases true = inl refl
bool_cases false = inr refl

-- one more byte of a text
pub starts_more_yes : (at : ℕ) (text : List ℕ) (i : ℕ) → i < length text → is_newline (get_or text i 0) ≡ true
    → starts_after (newlines_from at (take (i + 1) text)) ≡ starts_after (newlines_from at (take i text)) ++ (at + i + 1) ∷ []
starts_more_yes at text i h y =
    let x = get_or text i 0 in
    let long : length (take i text) ≡ i = length-take-le i text (omega arith) in
    ap (starts at) (take_more text i 0 h) ∙ starts-append at (take i text) (x ∷ [])
    ∙ ap (λ n. starts at (take i text) ++ starts (at + n) (x ∷ [])) long
    ∙ ap (λ b. starts at (take i text) ++ starts_after (cond b ((at + i) ∷ []) [])) y

pub starts_more_no : (at : ℕ) (text : List ℕ) (i : ℕ) → i < length text → is_newline (get_or text i 0) ≡ false
    → starts_after (newlines_from at (take (i + 1) text)) ≡ starts_after (newlines_from at (take i text))
starts_more_no at text i h n =
    let x = get_or text i 0 in
    ap (starts at) (take_more text i 0 h) ∙ starts-append at (take i text) (x ∷ [])
    ∙ ap (λ b. starts at (take i text) ++ starts_after (cond b ((at + length (take i text)) ∷ []) [])) n
    ∙ append-nil _

-- a text without newlines has none at any place
pub no_newline_at : (at : ℕ) (text : List ℕ) (i : ℕ) → newlines_from at text ≡ [] → i < length text → is_newline (get_or text i 0) ≡ true → ⊥
no_newline_at at text i none h y =
    let front = starts at (take (i + 1) text) in
    let back = starts (at + length (take (i + 1) text)) (drop (i + 1) text) in
    let whole : starts at text ≡ front ++ back = ap (starts at) (sym (take-append-drop (i + 1) text)) ∙ starts-append at (take (i + 1) text) (drop (i + 1) text) in
    let empty : length (starts at text) ≡ 0 = ap (λ l. length (starts_after l)) none in
    absurd (omega (arith, ap length whole, length-append front back, ap length (starts_more_yes at text i h y), length-append (starts at (take i text)) ((at + i + 1) ∷ [])))

-- the beginning of a place's line
line_begin_step : (text : List ℕ) (k : ℕ) → k + 1 ≤ length text
    → get_or (0 ∷ starts 0 (take k text)) (begun text k) 0 + suffix_len (λ x. not (is_newline x)) (take k text) ≡ k
    → get_or (0 ∷ starts 0 (take (k + 1) text)) (begun text (k + 1)) 0 + suffix_len (λ x. not (is_newline x)) (take (k + 1) text) ≡ k + 1
line_begin_step text k h e =
    let x = get_or text k 0 in
    let q : ℕ → Bool = λ c. not (is_newline c) in
    let in_text : k < length text = omega arith in
    elim (bool_cases (is_newline x)) [
      | inl y ↦
          let whole : starts 0 (take (k + 1) text) ≡ starts 0 (take k text) ++ (k + 1) ∷ [] = starts_more_yes 0 text k in_text y ∙ ap (λ m. starts 0 (take k text) ++ m ∷ []) (let z : 0 + k + 1 ≡ k + 1 = omega arith in z) in
          let counted : begun text (k + 1) ≡ begun text k + 1 = count_by_more_yes is_newline text k 0 in_text y in
          let stop : suffix_len q (take (k + 1) text) ≡ 0 = suffix_len-take_no q text (k + 1) 0 (omega arith) h (ap not (ap (λ j. is_newline (get_or text j 0)) (sub-one_add k) ∙ y)) in
          let last : get_or (0 ∷ starts 0 (take (k + 1) text)) (begun text (k + 1)) 0 ≡ k + 1 =
          ap (λ S. get_or (0 ∷ S) (begun text (k + 1)) 0) whole
          ∙ ap (λ n. get_or (0 ∷ (starts 0 (take k text) ++ (k + 1) ∷ [])) n 0) (counted ∙ add-one _)
          ∙ ap (λ n. get_or (starts 0 (take k text) ++ (k + 1) ∷ []) n 0) (sym (begun_length text k))
          ∙ get_or-append_seam (starts 0 (take k text)) (k + 1) [] 0 in
          omega arith
      | inr n ↦
          let whole : starts 0 (take (k + 1) text) ≡ starts 0 (take k text) = starts_more_no 0 text k in_text n in
          let counted : begun text (k + 1) ≡ begun text k = count_by_more_no is_newline text k 0 in_text n in
          let on : suffix_len q (take (k + 1) text) ≡ 1 + suffix_len q (take (k + 1 - 1) text) = suffix_len-take_yes q text (k + 1) 0 (omega arith) h (ap not (ap (λ j. is_newline (get_or text j 0)) (sub-one_add k) ∙ n)) in
          let back : suffix_len q (take (k + 1 - 1) text) ≡ suffix_len q (take k text) = ap (λ j. suffix_len q (take j text)) (sub-one_add k) in
          let same : get_or (0 ∷ starts 0 (take (k + 1) text)) (begun text (k + 1)) 0 ≡ get_or (0 ∷ starts 0 (take k text)) (begun text k) 0 =
          ap (λ S. get_or (0 ∷ S) (begun text (k + 1)) 0) whole ∙ ap (λ n. get_or (0 ∷ starts 0 (take k text)) n 0) counted in
          omega arith
    ]

line_begin_front : (text : List ℕ) (k : ℕ) → k ≤ length text → get_or (0 ∷ starts 0 (take k text)) (begun text k) 0 + suffix_len (λ x. not (is_newline x)) (take k text) ≡ k
line_begin_front text zero h = refl
line_begin_front text (suc k) h =
    let P : ℕ → Type 0 = λ n. get_or (0 ∷ starts 0 (take n text)) (begun text n) 0 + suffix_len (λ x. not (is_newline x)) (take n text) ≡ n in
    subst P (add-one k) (line_begin_step text k (omega arith) (line_begin_front text k (omega arith)))

pub line_begin : (text : List ℕ) (at : ℕ) → at ≤ length text
    → get_or (0 ∷ starts_after (newlines_from 0 text)) (count_by is_newline (take at text)) 0 + length (after_last is_newline (take at text)) ≡ at
line_begin text at h =
    let q : ℕ → Bool = λ c. not (is_newline c) in
    let xs = take at text in
    let long : length xs ≡ at = length-take-le at text h in
    let short = suffix_len-le-length q xs in
    let count : length (after_last is_newline xs) ≡ length xs - (length xs - suffix_len q xs) = length-drop (length xs - suffix_len q xs) xs in
    let e : get_or (0 ∷ starts 0 text) (begun text at) 0 ≡ get_or (0 ∷ starts 0 xs) (begun text at) 0 =
    ap (λ S. get_or (0 ∷ S) (begun text at) 0) (parts text at h)
    ∙ get_or_append_left (0 ∷ starts 0 xs) (starts at (drop at text)) 0 (begun text at) (omega (arith, begun_length text at)) in
    omega (arith, line_begin_front text at h)

-- the end of a place's line
line_end_back : (at : ℕ) (b : List ℕ) → (0 < length (starts at b) → get_or (starts at b) 0 0 ≡ at + position_or_len is_newline b + 1) × (length (starts at b) ≡ 0 → position_or_len is_newline b ≡ length b)
line_end_back at [] = (λ h. absurd (omega arith), λ _. refl)
line_end_back at (x ∷ b) =
    let N = newlines_from (at + 1) b in
    let i = line_end_back (at + 1) b in
    let m = position_or_len is_newline b in
    elim (is_newline x) as (λ v. (0 < length (starts_after (cond v (at ∷ N) N)) → get_or (starts_after (cond v (at ∷ N) N)) 0 0 ≡ at + cond (not v) (1 + m) 0 + 1)
    × (length (starts_after (cond v (at ∷ N) N)) ≡ 0 → cond (not v) (1 + m) 0 ≡ length (x ∷ b)))
    [ true ↦ (λ _. omega arith, λ h. absurd (omega arith)) | false ↦ (λ h. omega (arith, i.0 h), λ h. omega (arith, i.1 h)) ]

pub line_end : (text : List ℕ) (at n : ℕ) → at ≤ length text → n ≡ count_by is_newline (take at text)
    → (n < length (starts_after (newlines_from 0 text)) → get_or (starts_after (newlines_from 0 text)) n 0 ≡ at + position_or_len is_newline (drop at text) + 1)
    × (length (starts_after (newlines_from 0 text)) ≤ n → at + position_or_len is_newline (drop at text) ≡ length text)
line_end text at n h e =
    let A = starts 0 (take at text) in
    let B = starts at (drop at text) in
    let i = line_end_back at (drop at text) in
    let l : length A ≡ n = begun_length text at ∙ sym e in
    let both : length (starts 0 text) ≡ length A + length B = ap length (parts text at h) ∙ length-append A B in
    let rest : length (drop at text) ≡ length text - at = length-drop at text in
    let first : get_or (starts 0 text) n 0 ≡ get_or B (n - n) 0 =
    ap (λ S. get_or S n 0) (parts text at h) ∙ get_or-append_right A B n n 0 l (omega arith) in
    let zero_at : get_or B (n - n) 0 ≡ get_or B 0 0 = let z : n - n ≡ 0 = omega arith in ap (λ j. get_or B j 0) z in
    (λ m. omega (arith, i.0 (omega arith)), λ m. omega (arith, i.1 (omega arith)))

-- the line beginnings from the places of newlines
pub starts_after-back : (S : List ℕ) → All (λ s. 0 < s) S → starts_after (map (λ s. s - 1) S) ≡ S
starts_after-back [] h = refl
starts_after-back (x ∷ S) h =
    let e : x - 1 + 1 ≡ x = omega (arith, All-head (λ s. 0 < s) x S h) in
    cc (starts_after-back S (All-tail (λ s. 0 < s) x S h), e)

-- and the other way round
pub newlines_back : (N : List ℕ) → map (λ s. s - 1) (starts_after N) ≡ N
newlines_back [] = refl
newlines_back (x ∷ N) = let e : x + 1 - 1 ≡ x = omega arith in cc (newlines_back N, e)

pub starts_positive : (N : List ℕ) → All (λ s. 0 < s) (starts_after N)
starts_positive N = All-map (λ s. 0 < s) (λ p. p + 1) N (λ k d l. omega arith)

-- the front of a place's line
pub line_front : (text : List ℕ) (at b : ℕ) → at ≤ length text → b + length (after_last is_newline (take at text)) ≡ at
    → take (at - b) (drop b text) ≡ after_last is_newline (take at text)
line_front text at b h e =
    let q : ℕ → Bool = λ c. not (is_newline c) in
    let xs = take at text in
    let j = length xs - suffix_len q xs in
    let long : length xs ≡ at = length-take-le at text h in
    let count : length (after_last is_newline xs) ≡ length xs - j = length-drop j xs in
    let same : b ≡ j = omega arith in
    let whole : b + (at - b) ≡ at = omega arith in
    sym (drop-take b (at - b) text) ∙ ap (λ n. drop b (take n text)) whole ∙ ap (λ n. drop n xs) same

-- a line begins behind a newline
newline_first : (at x : ℕ) (a S : List ℕ) (k : ℕ) → is_newline x ≡ true
    → ((j : ℕ) → j < length S → is_newline (get_or (x ∷ a) (get_or S j 0 - (at + 1)) 0) ≡ true)
    → k < length ((at + 1) ∷ S) → is_newline (get_or (x ∷ a) (get_or ((at + 1) ∷ S) k 0 - (at + 1)) 0) ≡ true
newline_first at x a S zero y h l = let none : at + 1 - (at + 1) ≡ 0 = omega arith in ap (λ n. is_newline (get_or (x ∷ a) n 0)) none ∙ y
newline_first at x a S (suc k) y h l = h k (omega arith)

pub starts_newline : (at : ℕ) (a : List ℕ) (k : ℕ) → k < length (starts at a) → is_newline (get_or a (get_or (starts at a) k 0 - (at + 1)) 0) ≡ true
starts_newline at [] k h = absurd (omega arith)
starts_newline at (x ∷ a) k h =
    let N = newlines_from (at + 1) a in
    let behind : (j : ℕ) → j < length (starts_after N) → is_newline (get_or (x ∷ a) (get_or (starts_after N) j 0 - (at + 1)) 0) ≡ true =
    λ j l.
    let w = starts-within (at + 1) a j l in
    let s = get_or (starts_after N) j 0 in
    let up : s - (at + 1) ≡ suc (s - (at + 1 + 1)) = omega arith in
    ap (λ n. is_newline (get_or (x ∷ a) n 0)) up ∙ starts_newline (at + 1) a j l in
    elim (bool_cases (is_newline x)) [
      | inl y ↦ ap (λ b. is_newline (get_or (x ∷ a) (get_or (starts_after (cond b (at ∷ N) N)) k 0 - (at + 1)) 0)) y ∙ newline_first at x a (starts_after N) k y behind (subst (λ b. k < length (starts_after (cond b (at ∷ N) N))) y h)
      | inr n ↦ ap (λ b. is_newline (get_or (x ∷ a) (get_or (starts_after (cond b (at ∷ N) N)) k 0 - (at + 1)) 0)) n ∙ behind k (subst (λ b. k < length (starts_after (cond b (at ∷ N) N))) n h)
    ]

pub line_begin_fits : (text : List ℕ) (n : ℕ) → IsUtf8 text → n ≤ length (starts_after (newlines_from 0 text)) → IsCharBoundary text (get_or (0 ∷ starts_after (newlines_from 0 text)) n 0)
line_begin_fits text zero u h = IsCharBoundary-start text u
line_begin_fits text (suc k) u h =
    let s = get_or (starts 0 text) k 0 in
    let w = starts-within 0 text k (omega arith) in
    let up : s - (0 + 1) + 1 ≡ s = omega arith in
    let here : get_or text (s - (0 + 1)) 0 ≡ 10 = eqb-true _ _ (starts_newline 0 text k (omega arith)) in
    subst (IsCharBoundary text) up (IsCharBoundary-after_ascii text (s - (0 + 1)) u (omega arith) (omega arith))

-- a cache's line beginnings are those of the text whose newlines it has
pub starts_of_view : (S : List ℕ) (newlines : List ℕ) (text : List ℕ) → All (λ s. 0 < s) S → map (λ s. s - 1) S ≡ newlines → newlines ≡ newlines_from 0 text
    → S ≡ starts_after (newlines_from 0 text)
starts_of_view S newlines text h e f = sym (starts_after-back S h) ∙ ap starts_after (e ∙ f)

-- what the code takes for the beginning of a place's line is it
pub begin_is : (S D text : List ℕ) (at n b : ℕ) → S ≡ starts_after (newlines_from 0 text) → D ≡ S → at ≤ length text → n ≡ count_by is_newline (take at text) → b ≡ get_or (0 ∷ D) n 0
    → b + length (after_last is_newline (take at text)) ≡ at
begin_is S D text at n b e d h k f =
    let all : b ≡ get_or (0 ∷ starts 0 text) (begun text at) 0 = f ∙ ap (λ l. get_or (0 ∷ l) n 0) (d ∙ e) ∙ ap (λ m. get_or (0 ∷ starts 0 text) m 0) k in
    omega (arith, line_begin text at h)

-- and a character begins there
pub begin_fits : (S D text : List ℕ) (n b : ℕ) → IsUtf8 text → S ≡ starts_after (newlines_from 0 text) → D ≡ S → n ≤ length D → b ≡ get_or (0 ∷ D) n 0 → IsCharBoundary text b
begin_fits S D text n b u e d h f =
    let same : D ≡ starts 0 text = d ∙ e in
    let bound : n ≤ length (starts 0 text) = omega (arith, ap length same) in
    subst (IsCharBoundary text) (sym (f ∙ ap (λ l. get_or (0 ∷ l) n 0) same)) (line_begin_fits text n u bound)

-- a line's end can be cut at
pub line_end_fits : (text : List ℕ) (at : ℕ) → at ≤ length text → IsCharBoundary text (at + position_or_len is_newline (drop at text))
line_end_fits text at h =
    let b = drop at text in
    let m = position_or_len is_newline b in
    let rest : length b ≡ length text - at = length-drop at text in
    let bound = prefix_len-le-length (λ c. not (is_newline c)) b in
    elim (cases_lt m (length b)) [
      | inl l ↦
          let here : get_or text (at + m) 0 ≡ 10 = sym (get_or-drop at text m 0) ∙ eqb-true _ _ (passes_at_first is_newline b 0 l) in
          IsCharBoundary-before_ascii text (at + m) (omega arith) (omega arith)
      | inr g ↦ let all : length text ≡ at + m = omega arith in subst (IsCharBoundary text) all (IsCharBoundary-end text)
    ]

-- the line with so many newlines before it
pub record IsLineOf (text : List ℕ) (n b e : ℕ) : Type 0 where
  pub within : b ≤ length text
  pub number : count_by is_newline (take b text) ≡ n
  pub begins : length (after_last is_newline (take b text)) ≡ 0
  pub end : e ≡ b + position_or_len is_newline (drop b text)

start_within : (text : List ℕ) (n : ℕ) → n ≤ length (starts 0 text) → get_or (0 ∷ starts 0 text) n 0 ≤ length text
start_within text zero h = omega arith
start_within text (suc k) h = omega (arith, (starts-within 0 text k (omega (arith, h))).1)

pub no_front : (text : List ℕ) → take 0 text ≡ []
no_front [] = refl
no_front (x ∷ text) = refl

start_number : (text : List ℕ) (n : ℕ) → n ≤ length (starts 0 text) → begun text (get_or (0 ∷ starts 0 text) n 0) ≡ n
start_number text zero h = ap (count_by is_newline) (no_front text)
start_number text (suc k) h =
    let s = get_or (starts 0 text) k 0 in
    let below : k < length (starts 0 text) = omega (arith, h) in
    let w = starts-within 0 text k below in
    let in_text : s - 1 < length text = omega (arith, w.0, w.1) in
    let up : s - 1 + 1 ≡ s = omega (arith, w.0) in
    let one : s - (0 + 1) ≡ s - 1 = omega arith in
    let here : is_newline (get_or text (s - 1) 0) ≡ true = ap (λ j. is_newline (get_or text j 0)) (sym one) ∙ starts_newline 0 text k below in
    let more : begun text s ≡ begun text (s - 1) + 1 = ap (begun text) (sym up) ∙ count_by_more_yes is_newline text (s - 1) 0 in_text here in
    let few : begun text (s - 1) ≤ k = elim (cases_lt k (begun text (s - 1))) [ inl l ↦ absurd (omega (arith, before_place text (s - 1) k (omega (arith, in_text)) l, w.0)) | inr g ↦ g ] in
    let many : k < begun text s = elim (cases_lt k (begun text s)) [ inl l ↦ l | inr g ↦ absurd (omega (arith, behind_place text s k (omega (arith, w.1)) g below)) ] in
    omega (arith, more, few, many)

pub line_known : (S D text : List ℕ) (n b e bytes : ℕ) → S ≡ starts_after (newlines_from 0 text) → D ≡ S → bytes ≡ length text → n ≤ length S → b ≡ get_or (0 ∷ D) n 0
    → (n < length S → e ≡ get_or S n 0 - 1) → (length S ≤ n → e ≡ bytes) → IsLineOf text n b e
line_known S D text n b e bytes is same long bound begin inner last =
    let all : b ≡ get_or (0 ∷ starts 0 text) n 0 = begin ∙ ap (λ l. get_or (0 ∷ l) n 0) (same ∙ is) in
    let size : length S ≡ length (starts 0 text) = ap length is in
    let known : n ≤ length (starts 0 text) = omega (arith, size, bound) in
    let within : b ≤ length text = omega (arith, all, start_within text n known) in
    let number : begun text b ≡ n = ap (begun text) all ∙ start_number text n known in
    let at = line_begin text b within in
    let behind = line_end text b n within (sym number) in
    record {
      within = within;
      number = number;
      begins = omega (arith, at, all, ap (λ m. get_or (0 ∷ starts 0 text) m 0) number);
      end = elim (cases_lt n (length S)) [
        | inl l ↦ omega (arith, inner l, ap (λ xs. get_or xs n 0) is, behind.0 (omega (arith, l, size)))
        | inr g ↦ omega (arith, last g, long, behind.1 (omega (arith, g, size)))
      ];
    }
