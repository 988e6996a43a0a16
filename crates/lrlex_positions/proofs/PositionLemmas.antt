-- Positions ascend with the places that they tell, and the place of a position is on its line.
use Rattle.std.proofs.Common.{◌≡◌, ◌⊎◌, inl, inr, ℕ, zero, suc, ◌+◌, ◌-◌, ◌<◌, ◌≤◌, Bool, true, false, not, cond, List, [], ◌∷◌, ◌++◌, length, take, drop, get_or, reverse, Option, Some, None, IfSome, refl, sym, ◌∙◌, ap, subst, arith, IsUtf8}
use Rattle.std.specs.List.{count_by, after_last, position_or_len, suffix_len}
use Rattle.std.specs.Str.{IsCharBoundary}
use Rattle.std.proofs.lemmas.Bool.{cases_lt, eqb-true, eqb-false, not-true}
use Rattle.std.proofs.lemmas.List.{length-drop, length-map, length-take-le, take-take, take_all, take-append-drop, drop-drop, get_or-drop, get_or-take, get_or-reverse, get_or_past}
use Rattle.std.proofs.lemmas.List.Sums.{sum_by-append, sum_by-cons, prefix_len-le-length, prefix_len_passes, suffix_len-le-length, passes_at_first, fails_before_first}
use Rattle.std.proofs.lemmas.Str.{IsUtf8-between, IsCharBoundary-start, IsCharBoundary-end, IsCharBoundary-before_ascii, IsCharBoundary-after_ascii}
use Rattle.lrlex_base.specs.Places.{is_newline, newlines_from, starts_after, whole_lines}
use Rattle.lrlex_base.specs.Spans.{Fits, as_span, at_place, span_start, span_end}
use Rattle.lrlex_base.specs.declared.spans.Span.{Span as TheSpan}
use Rattle.lrlex_base.proofs.NewlineLemmas.{line_begin, line_front, begun_within, begun_length, starts-within, starts_newline}
use Rattle.lrlex_positions.specs.Columns.{width, IsLastColumn}
use Rattle.lrlex_positions.specs.Lines.{with_newlines, HasPosition, IsInBreak, IsLine, IsLineEnd, IsLineOf, IsNearestPlace}
use Rattle.lrlex_positions.specs.Positions.{position_of, IsUpTo, IsLastUpTo}
use Rattle.lrlex_positions.specs.declared.encoding.PositionEncoding.{PositionEncoding}
use Rattle.lrlex_positions.proofs.ColumnLemmas.{longer, no_width, width-append}
use Rattle.lrlex_positions.proofs.LineLemmas.{length-with, drop-with, front_same, origin, newline_stays, pair}

-- the lines of the protocol
abbrev lines : List ℕ → ℕ → ℕ
lines text at = count_by is_newline (take at (with_newlines text))

abbrev front : List ℕ → ℕ → List ℕ
front text at = after_last is_newline (take at (with_newlines text))

abbrev starts : List ℕ → List ℕ
starts text = 0 ∷ starts_after (newlines_from 0 (with_newlines text))

-- how many newlines two parts have
newlines-append : (xs ys : List ℕ) → count_by is_newline (xs ++ ys) ≡ count_by is_newline xs + count_by is_newline ys
newlines-append xs ys = sum_by-append (λ x. cond (is_newline x) 1 0) xs ys

lines_on : (text : List ℕ) (i j : ℕ) → i ≤ j → lines text j ≡ lines text i + count_by is_newline (take (j - i) (drop i (with_newlines text)))
lines_on text i j h = ap (count_by is_newline) (longer i j (with_newlines text) h) ∙ newlines-append (take i (with_newlines text)) (take (j - i) (drop i (with_newlines text)))

lines_rise : (text : List ℕ) (i j : ℕ) → i ≤ j → lines text i ≤ lines text j
lines_rise text i j h = omega (arith, lines_on text i j h)

-- no newline stands behind the last one
pub count_none : (xs : List ℕ) → ((k : ℕ) → k < length xs → is_newline (get_or xs k 0) ≡ false) → count_by is_newline xs ≡ 0
count_none [] h = refl
count_none (x ∷ xs) h =
    omega (arith, sum_by-cons (λ c. cond (is_newline c) 1 0) x xs, ap {B = ℕ} (λ v. cond v 1 0) (h 0 (omega arith)), count_none xs (λ k l. h (suc k) (omega (arith, l))))

none_after : (xs : List ℕ) → count_by is_newline (after_last is_newline xs) ≡ 0
none_after xs =
    let q : ℕ → Bool = λ c. not (is_newline c) in
    let n = length xs - suffix_len q xs in
    let few = suffix_len-le-length q xs in
    count_none (drop n xs) (λ k l.
    let in_list : n + k < length xs = omega (arith, l, length-drop n xs) in
    let j = length xs - 1 - (n + k) in
    let low : j < suffix_len q xs = omega (arith, in_list, few) in
    let there : length xs - 1 - j ≡ n + k = omega (arith, in_list) in
    let same : get_or (reverse xs) j 0 ≡ get_or (drop n xs) k 0 = get_or-reverse xs j 0 (omega (arith, in_list)) ∙ ap (λ m. get_or xs m 0) there ∙ sym (get_or-drop n xs k 0) in
    not-true (is_newline (get_or (drop n xs) k 0)) (ap q (sym same) ∙ prefix_len_passes q (reverse xs) j 0 low))

-- a part of a line is as the text has it
part_same : (text : List ℕ) (b n : ℕ) → count_by is_newline (take n (drop b (with_newlines text))) ≡ 0 → take n (drop b (with_newlines text)) ≡ take n (drop b text)
part_same text b n none =
    let at : drop b (with_newlines text) ≡ with_newlines (drop b text) = drop-with b text in
    ap (take n) at ∙ front_same (drop b text) n (ap (λ xs. count_by is_newline (take n xs)) (sym at) ∙ none)

-- where a line begins
pub begins_line : (text : List ℕ) (n : ℕ) → n < length (starts text) → (get_or (starts text) n 0 ≡ 0) ⊎ ((0 < get_or (starts text) n 0) × (get_or (starts text) n 0 ≤ length text) × (get_or (with_newlines text) (get_or (starts text) n 0 - 1) 0 ≡ 10))
begins_line text zero h = inl refl
begins_line text (suc k) h =
    let w = starts-within 0 (with_newlines text) k (omega (arith, h)) in
    let s = get_or (starts text) (suc k) 0 in
    let one : s - (0 + 1) ≡ s - 1 = omega arith in
    inr (w.0, omega (arith, w.1, length-with text), ap (λ n. get_or (with_newlines text) n 0) (sym one) ∙ eqb-true _ _ (starts_newline 0 (with_newlines text) k (omega (arith, h))))

-- a byte that ends a line is ASCII
low : (text : List ℕ) (i : ℕ) → get_or (with_newlines text) i 0 ≡ 10 → get_or text i 0 < 128
low text i e = elim (origin text i e) [ inl l ↦ omega (arith, l) | inr r ↦ omega (arith, r.0) ]

pub begin_fits : (text : List ℕ) (n : ℕ) → IsUtf8 text → n < length (starts text) → IsCharBoundary text (get_or (starts text) n 0)
begin_fits text n u h =
    let s = get_or (starts text) n 0 in
    elim (begins_line text n h) [
      | inl l ↦ subst (IsCharBoundary text) (sym l) (IsCharBoundary-start text u)
      | inr r ↦
          let up : s - 1 + 1 ≡ s = omega (arith, r.0) in
          subst (IsCharBoundary text) up (IsCharBoundary-after_ascii text (s - 1) u (omega (arith, r.0, r.1)) (low text (s - 1) r.2))
    ]

-- the front of a place's line, from where the line begins
pub record Begun (text : List ℕ) (i b : ℕ) : Type 0 where
  pub within : b ≤ i
  pub fits : IsCharBoundary text b
  pub is : take (i - b) (drop b (with_newlines text)) ≡ front text i
  pub same : take (i - b) (drop b text) ≡ front text i

pub begun : (text : List ℕ) (i b : ℕ) → IsUtf8 text → i ≤ length text → b ≡ get_or (starts text) (lines text i) 0 → Begun text i b
begun text i b u h e =
    let t = with_newlines text in
    let in_lines : i ≤ length t = omega (arith, h, length-with text) in
    let at_i : b + length (front text i) ≡ i = omega (arith, e, line_begin t i in_lines) in
    let is : take (i - b) (drop b t) ≡ front text i = line_front t i b in_lines at_i in
    record {
      within = omega (arith, at_i);
      fits = subst (IsCharBoundary text) (sym e) (begin_fits text (lines text i) u (omega (arith, begun_within t i in_lines)));
      is = is;
      same = sym (part_same text b (i - b) (ap (count_by is_newline) is ∙ none_after (take i t))) ∙ is;
    }

-- two places of a line
further : (encoding : PositionEncoding) (text : List ℕ) (i j : ℕ) → IsUtf8 text → IsCharBoundary text i → IsCharBoundary text j → i ≤ j → lines text i ≡ lines text j
    → width encoding (front text j) ≡ width encoding (front text i) + width encoding (take (j - i) (drop i text))
further encoding text i j u fits_i fits_j h e =
    let b = get_or (starts text) (lines text i) 0 in
    let one = begun text i b u fits_i.0 refl in
    let two = begun text j b u fits_j.0 (ap (λ n. get_or (starts text) n 0) e) in
    let rest : drop (i - b) (drop b text) ≡ drop i text = let n : b + (i - b) ≡ i = omega (arith, one.within) in drop-drop (i - b) b text ∙ ap (λ k. drop k text) n in
    let many : j - b - (i - b) ≡ j - i = omega (arith, one.within, h) in
    let parts : front text j ≡ front text i ++ take (j - i) (drop i text) =
    sym two.same ∙ longer (i - b) (j - b) (drop b text) (omega (arith, h)) ∙ ap (λ a. a ++ take (j - b - (i - b)) (drop (i - b) (drop b text))) one.same
    ∙ ap (λ r. front text i ++ take (j - b - (i - b)) r) rest ∙ ap (λ n. front text i ++ take n (drop i text)) many in
    let good : IsUtf8 (front text i) = subst IsUtf8 one.same (IsUtf8-between text b i u one.within one.fits fits_i) in
    ap (width encoding) parts ∙ width-append encoding (front text i) (take (j - i) (drop i text)) good

-- a further place has a further position
pub strictly : (encoding : PositionEncoding) (text : List ℕ) (i j : ℕ) → IsUtf8 text → IsCharBoundary text i → IsCharBoundary text j → i < j → IsUpTo (position_of encoding text j) (position_of encoding text i) → ⊥
strictly encoding text i j u fits_i fits_j h up =
    let le : i ≤ j = omega (arith, h) in
    elim up [
      | inl l ↦ omega (arith, l, lines_rise text i j le)
      | inr m ↦
          let s = take (j - i) (drop i text) in
          let more = further encoding text i j u fits_i fits_j le (sym m.0) in
          let none : length s ≡ 0 = no_width encoding s (IsUtf8-between text i j u le fits_i fits_j) (omega (arith, more, m.1)) in
          omega (arith, none, length-take-le (j - i) (drop i text) (omega (arith, length-drop i text, fits_j.0)), h)
    ]

-- so the last place that isn't behind the position of a place is that place
pub inverse : (encoding : PositionEncoding) (text : List ℕ) (position : ℕ × ℕ) (found at : ℕ) → IsUtf8 text → IsLastUpTo encoding text position found → HasPosition text at
    → position_of encoding text at ≡ position → found ≡ at
inverse encoding text position found at u is fits e =
    let reached : at ≤ found = is.last at fits (inr (ap (λ p. p.0) e, omega (arith, ap (λ p. p.1) e))) in
    elim (cases_lt at found) [
      | inl l ↦ absurd (strictly encoding text at found u fits.0 is.place.0 l (subst (IsUpTo (position_of encoding text found)) (sym e) is.up_to))
      | inr g ↦ omega (arith, reached, g)
    ]

-- ---- the place of a line and column

-- no newline stands in front of the first one, and one behind it
none_before : (xs : List ℕ) (m : ℕ) → m ≤ position_or_len is_newline xs → count_by is_newline (take m xs) ≡ 0
none_before xs zero h = refl
none_before [] (suc m) h = refl
none_before (x ∷ xs) (suc m) h =
    sum_by-cons (λ c. cond (is_newline c) 1 0) x (take m xs)
    ∙ (elim (is_newline x) as (λ b. suc m ≤ cond (not b) (1 + position_or_len is_newline xs) 0 → cond b 1 0 + count_by is_newline (take m xs) ≡ 0) [
      | true ↦ λ l. absurd (omega (arith, l))
      | false ↦ λ l. omega (arith, none_before xs m (omega (arith, l)))
    ] h)

one_behind : (xs : List ℕ) (m : ℕ) → position_or_len is_newline xs < m → m ≤ length xs → 1 ≤ count_by is_newline (take m xs)
one_behind xs zero h l = absurd (omega (arith, h))
one_behind [] (suc m) h l = absurd (omega (arith, l))
one_behind (x ∷ xs) (suc m) h l =
    let whole = sum_by-cons (λ c. cond (is_newline c) 1 0) x (take m xs) in
    let more : 1 ≤ cond (is_newline x) 1 0 + count_by is_newline (take m xs) =
    elim (is_newline x) as (λ b. cond (not b) (1 + position_or_len is_newline xs) 0 < suc m → 1 ≤ cond b 1 0 + count_by is_newline (take m xs)) [
      | true ↦ λ k. omega arith
      | false ↦ λ k. omega (arith, one_behind xs m (omega (arith, k)) (omega (arith, l)))
    ] h in
    omega (arith, whole, more)

-- a place of a part is a place of the text
part_fits : (text : List ℕ) (b m k : ℕ) → b ≤ length text → IsCharBoundary text (b + m) → IsCharBoundary (take m (drop b text)) k → IsCharBoundary text (b + k)
part_fits text b m k h end fits =
    let long : length (take m (drop b text)) ≡ m = length-take-le m (drop b text) (omega (arith, length-drop b text, end.0)) in
    elim (cases_lt k m) [
      | inl l ↦
          let same : get_or (take m (drop b text)) k 0 ≡ get_or text (b + k) 0 = get_or-take m (drop b text) k 0 l ∙ get_or-drop b text k 0 in
          (omega (arith, l, end.0), λ w a. omega (arith, same, fits.1 (omega (arith, long, l)) (omega (arith, same, a))))
      | inr g ↦ let all : b + m ≡ b + k = omega (arith, g, long, fits.0) in subst (IsCharBoundary text) all end
    ]

fits_part : (text : List ℕ) (b m i : ℕ) → b ≤ i → i ≤ b + m → b + m ≤ length text → IsCharBoundary text i → IsCharBoundary (take m (drop b text)) (i - b)
fits_part text b m i h l end fits =
    let long : length (take m (drop b text)) ≡ m = length-take-le m (drop b text) (omega (arith, length-drop b text, end)) in
    let at : b + (i - b) ≡ i = omega (arith, h) in (
      omega (arith, long, l),
      λ w a.
          let low : i - b < m = omega (arith, w, long) in
          let same : get_or (take m (drop b text)) (i - b) 0 ≡ get_or text i 0 = get_or-take m (drop b text) (i - b) 0 low ∙ get_or-drop b text (i - b) 0 ∙ ap (λ n. get_or text n 0) at in
          omega (arith, same, fits.1 (omega (arith, low, end)) (omega (arith, same, a))),
    )

-- the line that begins at a place
module _ (text : List ℕ) (n b e : ℕ) (u : IsUtf8 text) (line : IsLine text n b e) where
  pub ends : e ≤ length text
  ends = omega (arith, line.end, line.within, length-drop b (with_newlines text), length-with text, prefix_len-le-length (λ c. not (is_newline c)) (drop b (with_newlines text)))

  at_start : get_or (starts text) n 0 ≡ b
  at_start = omega (arith, line_begin (with_newlines text) b (omega (arith, line.within, length-with text)), line.begins, ap (λ k. get_or (starts text) k 0) line.counted)

  known : n < length (starts text)
  known = omega (arith, begun_within (with_newlines text) b (omega (arith, line.within, length-with text)), line.counted)

  pub start_fits : IsCharBoundary text b
  start_fits = subst (IsCharBoundary text) at_start (begin_fits text n u known)

  -- no newline before its end, and one there
  no_newline : (i : ℕ) → b ≤ i → i < e → get_or (with_newlines text) i 0 ≡ 10 → ⊥
  no_newline i h l is =
      let at : b + (i - b) ≡ i = omega (arith, h) in
      let there : get_or (drop b (with_newlines text)) (i - b) 0 ≡ 10 = get_or-drop b (with_newlines text) (i - b) 0 ∙ ap (λ k. get_or (with_newlines text) k 0) at ∙ is in
      eqb-false _ _ (fails_before_first is_newline (drop b (with_newlines text)) (i - b) 0 (omega (arith, line.end, l, h))) there

  end_fits : IsCharBoundary text e
  end_fits =
      let rest = drop b (with_newlines text) in
      let m = position_or_len is_newline rest in
      elim (cases_lt m (length rest)) [
        | inl l ↦
            let here : get_or (with_newlines text) e 0 ≡ 10 = ap (λ k. get_or (with_newlines text) k 0) line.end ∙ sym (get_or-drop b (with_newlines text) m 0) ∙ eqb-true _ _ (passes_at_first is_newline rest 0 l) in
            IsCharBoundary-before_ascii text e (omega (arith, line.end, l, length-drop b (with_newlines text), length-with text, line.within)) (low text e here)
        | inr g ↦ let all : length text ≡ e = omega (arith, ends, line.end, g, length-drop b (with_newlines text), length-with text, line.within) in subst (IsCharBoundary text) all (IsCharBoundary-end text)
      ]

  -- a place of the line
  on_line : (i : ℕ) → b ≤ i → i ≤ e → lines text i ≡ n
  on_line i h l = omega (arith, lines_on text b i h, none_before (drop b (with_newlines text)) (i - b) (omega (arith, line.end, l)), line.counted)

  -- a place behind the line
  behind : (i : ℕ) → e < i → i ≤ length text → n < lines text i
  behind i h l =
      omega (
        arith,
        lines_on text b i (omega (arith, line.end, h)),
        one_behind (drop b (with_newlines text)) (i - b) (omega (arith, line.end, h)) (omega (arith, length-drop b (with_newlines text), length-with text, l)),
        line.counted,
      )

  module _ (f : ℕ) (cut : IsLineEnd text b e f) where
    pub cut_order : (b ≤ f) × (f ≤ e)
    cut_order = elim cut [ inl l ↦ (omega (arith, l.0, line.end), omega (arith, l.0)) | inr r ↦ (omega (arith, r.0, r.1), omega (arith, r.0)) ]

    pub cut_fits : IsCharBoundary text f
    cut_fits = elim cut [
      | inl l ↦ subst (IsCharBoundary text) (sym l.0) end_fits
      | inr r ↦ IsCharBoundary-before_ascii text f (omega (arith, r.0, ends)) (omega (arith, r.2))
    ]

    front_is : (i : ℕ) → b ≤ i → i ≤ f → front text i ≡ take (i - b) (take (f - b) (drop b text))
    front_is i h l =
        let in_line : i ≤ e = omega (arith, l, cut_order.1) in
        let start : b ≡ get_or (starts text) (lines text i) 0 = sym at_start ∙ ap (λ k. get_or (starts text) k 0) (sym (on_line i h in_line)) in
        let it = begun text i b u (omega (arith, in_line, ends)) start in
        sym it.same ∙ sym (take-take (i - b) (f - b) (drop b text) (omega (arith, l)))

    -- no place up to there is inside the end of a line
    apart : (i : ℕ) → b ≤ i → i ≤ f → IsInBreak text i → ⊥
    apart i h l in_break =
        let newline : get_or (with_newlines text) i 0 ≡ 10 = newline_stays text i in_break.1 in
        elim (cases_lt i e) [
          | inl m ↦ no_newline i h m newline
          | inr m ↦
              let at : i ≡ e = omega (arith, m, l, cut_order.1) in
              let before : get_or text (e - 1) 0 ≡ 13 = ap (λ k. get_or text (k - 1) 0) (sym at) ∙ in_break.0 in
              elim cut [
                | inr r ↦ omega (arith, r.0, l, at)
                | inl r ↦
                    elim (cases_lt b e) [
                      | inl v ↦ r.1 v before
                      | inr v ↦
                          let same : i ≡ b = omega (arith, h, v, at) in
                          elim (begins_line text n known) [
                            | inl z ↦ let none : i ≡ 0 = omega (arith, same, at_start, z) in omega (arith, ap (λ k. get_or text (k - 1) 0) none, ap (λ k. get_or text k 0) none, in_break.0, in_break.1)
                            | inr z ↦
                                let there : get_or (with_newlines text) (i - 1) 0 ≡ 10 = ap (λ k. get_or (with_newlines text) (k - 1) 0) (same ∙ sym at_start) ∙ z.2 in
                                let up : i - 1 + 1 ≡ i = omega (arith, same, at_start, z.0) in
                                elim (origin text (i - 1) there) [
                                  | inl o ↦ omega (arith, o, in_break.0)
                                  | inr o ↦ o.1 (ap (λ k. get_or text k 0) up ∙ in_break.1)
                                ]
                          ]
                    ]
              ]
        ]

    -- and behind it, only one that is
    within_end : (i : ℕ) → f < i → i ≤ e → IsInBreak text i
    within_end i h l = elim cut [
      | inl r ↦ absurd (omega (arith, r.0, h, l))
      | inr r ↦
          let at : f + 1 ≡ i = omega (arith, r.0, h, l) in
          let back : i - 1 ≡ f = omega (arith, at) in
          (ap (λ k. get_or text k 0) back ∙ r.2, ap (λ k. get_or text k 0) (sym at) ∙ pair text f r.2 (no_newline f cut_order.0 (omega (arith, r.0))))
    ]

    pub last_on_line : (encoding : PositionEncoding) (column k : ℕ) → IsLastColumn encoding (take (f - b) (drop b text)) column k → IsLastUpTo encoding text (n, column) (b + k)
    last_on_line encoding column k is =
        let long : length (take (f - b) (drop b text)) ≡ f - b = length-take-le (f - b) (drop b text) (omega (arith, length-drop b text, ends, cut_order.1)) in
        let low_end : b + k ≤ f = omega (arith, is.boundary.0, long, cut_order.0) in
        let back : b + k - b ≡ k = omega arith in
        let whole : b + (f - b) ≡ f = omega (arith, cut_order.0) in
        let fits : IsCharBoundary text (b + k) = part_fits text b (f - b) k line.within (subst (IsCharBoundary text) (sym whole) cut_fits) is.boundary in
        record {
          place = (fits, apart (b + k) (omega arith) low_end);
          up_to = inr (
            on_line (b + k) (omega arith) (omega (arith, low_end, cut_order.1)),
            omega (arith, ap (width encoding) (front_is (b + k) (omega arith) low_end ∙ ap (λ m. take m (take (f - b) (drop b text))) back), is.up_to),
          );
          last = λ i there up.
              elim (cases_lt (b + k) i) [
                | inr g ↦ g
                | inl l ↦
                    elim (cases_lt e i) [
                      | inl m ↦ absurd (elim up [ inl v ↦ omega (arith, behind i m there.0.0, v) | inr v ↦ omega (arith, behind i m there.0.0, v.0) ])
                      | inr m ↦
                          let h : b ≤ i = omega (arith, l) in
                          elim (cases_lt f i) [
                            | inl v ↦ absurd (there.1 (within_end i v m))
                            | inr v ↦
                                let in_column : width encoding (take (i - b) (take (f - b) (drop b text))) ≤ column =
                                omega (arith, ap (width encoding) (front_is i h v), elim up as (λ _. width encoding (front text i) ≤ column) [ inl w ↦ absurd (omega (arith, w, on_line i h m)) | inr w ↦ w.1 ]) in
                                absurd (omega (arith, l, is.last (i - b) (fits_part text b (f - b) i h (omega (arith, v)) (omega (arith, whole, ends, cut_order.1)) there.0) in_column))
                          ]
                    ]
              ];
        }

-- the line of a cache's span
pub line_of_span : (text : List ℕ) (n : ℕ) (s : TheSpan) → lines text s.start ≡ n → as_span s ≡ whole_lines (with_newlines text) (at_place s.start) → s.start ≤ length text → IsLine text n s.start s.end
line_of_span text n s number whole within = record {
  counted = number;
  begins = omega (arith, ap (λ x. x.start) whole, line_begin (with_newlines text) s.start (omega (arith, within, length-with text)));
  end = ap (λ x. x.end) whole;
  within = within;
}

-- a place's line begins where the span of its number does
pub line_of_cache : (text : List ℕ) (at n b e : ℕ) → at ≤ length text → n ≡ lines text at → IsLine text n b e → IsLineOf text at n b
line_of_cache text at n b e h is line =
    let t = with_newlines text in
    record {
      counted = is;
      front = omega (arith, line_begin t at (omega (arith, h, length-with text)), line_begin t b (omega (arith, line.within, length-with text)), line.begins, ap (λ k. get_or (starts text) k 0) (line.counted ∙ is));
    }

-- a line of a newline cache
pub line_known : (text : List ℕ) (n : ℕ) (s : TheSpan) → count_by is_newline (take s.start (with_newlines text)) ≡ n → as_span s ≡ whole_lines (with_newlines text) (at_place s.start)
    → Fits (with_newlines text) s → IsLine text n s.start s.end
line_known text n s number whole fits = line_of_span text n s number whole (omega (arith, fits.0.0, length-with text))

pub lines_known : (text : List ℕ) (n : ℕ) (found : Option TheSpan) → IfSome found (λ s. count_by is_newline (take (span_start s) (with_newlines text)) ≡ n)
    → IfSome found (λ s. as_span s ≡ whole_lines (with_newlines text) (at_place (span_start s))) → IfSome found (Fits (with_newlines text)) → IfSome found (λ s. IsLine text n (span_start s) (span_end s))
lines_known text n (Some s) number whole fits = line_known text n s number whole fits
lines_known text n None number whole fits = tt

-- from there the front of the line goes
pub front_of : (text : List ℕ) (at n b : ℕ) → IsUtf8 text → at ≤ length text → IsLineOf text at n b → Begun text at b
front_of text at n b u h line = begun text at b u h (omega (arith, line.front, line_begin (with_newlines text) at (omega (arith, h, length-with text))))

-- past the last line
pub newlines_counted : (xs : List ℕ) → length (newlines_from 0 xs) ≡ count_by is_newline xs
newlines_counted xs =
    let all : take (length xs) xs ≡ xs = take_all (length xs) xs (omega arith) in
    sym (length-map (newlines_from 0 xs) (λ p. p + 1)) ∙ ap (λ t. length (starts_after (newlines_from 0 t))) (sym all) ∙ begun_length xs (length xs) ∙ ap (count_by is_newline) all

pub count_rises : (xs : List ℕ) (at : ℕ) → count_by is_newline (take at xs) ≤ count_by is_newline xs
count_rises xs at = omega (arith, ap (count_by is_newline) (take-append-drop at xs), newlines-append (take at xs) (drop at xs))

pub past_lines : (encoding : PositionEncoding) (text : List ℕ) (position : ℕ × ℕ) → count_by is_newline (with_newlines text) < position.0 → IsLastUpTo encoding text position (length text)
past_lines encoding text position h =
    let t = with_newlines text in
    let all : lines text (length text) ≡ count_by is_newline t = ap (count_by is_newline) (take_all (length text) t (omega (arith, length-with text))) in
    record {
      place = (IsCharBoundary-end text, λ in_break. omega (arith, in_break.1, get_or_past text (length text) 0 (omega arith)));
      up_to = inl (omega (arith, all, h));
      last = λ i there up. there.0.0;
    }

-- the nearest place in front of a character, or of the end of a line
pub nearest : (text : List ℕ) (n at : ℕ) → at ≤ n → IsCharBoundary text at → ((i : ℕ) → at < i → i ≤ n → ¬ (IsCharBoundary text i)) → (IsInBreak text at → ⊥) → IsNearestPlace text n at
nearest text n at h fits great apart = record { up_to = h; place = (fits, apart); greatest = λ i l m there. great i l m there.0 }

pub nearest_before : (text : List ℕ) (n at : ℕ) → at ≤ n → IsCharBoundary text at → ((i : ℕ) → at < i → i ≤ n → ¬ (IsCharBoundary text i)) → 0 < at → IsInBreak text at → IsNearestPlace text n (at - 1)
nearest_before text n at h fits great some in_break = record {
  up_to = omega (arith, h);
  place = (IsCharBoundary-before_ascii text (at - 1) (omega (arith, fits.0, some)) (omega (arith, in_break.0)), λ other. omega (arith, in_break.0, other.1));
  greatest = λ i l m there. elim (cases_lt at i) [ inl v ↦ great i v m there.0 | inr v ↦ there.1 (let e : at ≡ i = omega (arith, l, v) in subst (IsInBreak text) e in_break) ];
}

-- there is one only
pub same_place : (text : List ℕ) (n a b : ℕ) → IsNearestPlace text n a → IsNearestPlace text n b → a ≡ b
same_place text n a b x y =
    elim (cases_lt a b) [
      | inl l ↦ absurd (x.greatest b l y.up_to y.place)
      | inr g ↦ elim (cases_lt b a) [ inl l ↦ absurd (y.greatest a l x.up_to x.place) | inr m ↦ omega (arith, g, m) ]
    ]

pub own_place : (text : List ℕ) (n : ℕ) → HasPosition text n → IsNearestPlace text n n
own_place text n h = record { up_to = omega arith; place = h; greatest = λ i l m. absurd (omega (arith, l, m)) }
