-- Places of a text: the nearest to a number, and where lines end.
use Rattle.std.proofs.Common.{◌≡◌, ℕ, zero, suc, ◌<◌, ◌≤◌, ◌∙◌, inl, inr, Bool, true, false, cond, ltb, List, ◌++◌, length, get_or, min, append_assoc, sym, ap, subst, refl, arith}
use Rattle.std.specs.Prelude.{IsCharBoundary}
use Rattle.std.specs.Fmt.{is_char_start}
use Rattle.std.specs.Fmt.Cut.{floor_char_boundary}
use Rattle.std.proofs.lemmas.Str.{IsCharBoundary-end}
use Rattle.std.proofs.lemmas.Bool.{cases_lt, ltb-true, ltb-false, lt-ltb, le-ltb, le-leb, lt-leb}
use Rattle.lrlex_base.specs.Places.{whole_lines, place_of}
use Rattle.lrlex_base.specs.Spans.{Span, span, at_place}
use Rattle.lrlex_report.specs.PlaceTexts.{nearest, before_return, line_at, heading, excerpt, place_text}

-- what `floor_char_boundary` ensures of its result
abbrev pub IsLastBoundary : List ℕ → ℕ → ℕ → Type 0
IsLastBoundary text n at = (at ≤ n) × IsCharBoundary text at × ((i : ℕ) → at < i → i ≤ n → ¬ (IsCharBoundary text i))

-- a byte decides whether a character begins there
starts : (b : ℕ) → (128 ≤ b → 192 ≤ b) → is_char_start b ≡ true
starts b h =
    elim (cases_lt b 128) as (λ _. is_char_start b ≡ true) [
      | inl low ↦ rw (lt-ltb b 128 low) refl
      | inr high ↦ rw (le-ltb b 128 high, le-leb 192 b (h high)) refl
    ]

continues : (b : ℕ) → ¬ (128 ≤ b → 192 ≤ b) → is_char_start b ≡ false
continues b h =
    elim (cases_lt b 128) as (λ _. is_char_start b ≡ false) [
      | inl low ↦ absurd (h (λ high. omega arith))
      | inr high ↦
          elim (cases_lt b 192) as (λ _. is_char_start b ≡ false) [
            | inl mid ↦ rw (le-ltb b 128 high, lt-leb 192 b mid) refl
            | inr top ↦ absurd (h (λ _. top))
          ]
    ]

-- these clauses fix its result
floor_is : (text : List ℕ) (n at : ℕ) → n < length text → IsLastBoundary text n at → floor_char_boundary text n ≡ at
unfolding floor_char_boundary
floor_is text zero at within last = omega arith
floor_is text (suc n) at within last =
    elim (cases_lt at (suc n)) as (λ _. cond (is_char_start (get_or text (suc n) 0)) (suc n) (floor_char_boundary text n) ≡ at) [
      | inl below ↦ ap (λ t. cond t (suc n) (floor_char_boundary text n)) (continues (get_or text (suc n) 0) (λ h. last.2 (suc n) below (omega arith) (omega arith, λ _. h)))
          ∙ floor_is text n at (omega arith) (omega arith, last.1, λ i p q. last.2 i p (omega arith))
      | inr above ↦
          let same : at ≡ suc n = omega arith in
          ap (λ t. cond t (suc n) (floor_char_boundary text n)) (starts (get_or text (suc n) 0) ((subst (IsCharBoundary text) same last.1).1 within)) ∙ sym same
    ]

nearest_by : (text : List ℕ) (n at : ℕ) → IsLastBoundary text n at → (b : Bool) → ltb n (length text) ≡ b → at ≡ cond b (floor_char_boundary text n) (length text)
nearest_by text n at last true is = sym (floor_is text n at (ltb-true n (length text) is) last)
nearest_by text n at last false is =
    let long : length text ≤ n = ltb-false n (length text) is in
    elim (cases_lt at (length text)) as (λ _. at ≡ length text) [
      | inl less ↦ absurd (last.2 (length text) less long (IsCharBoundary-end text))
      | inr le ↦ omega (arith, last.1.0)
    ]

pub nearest_is : (text : List ℕ) (n at : ℕ) → at ≤ n → IsCharBoundary text at → ((i : ℕ) → at < i → i ≤ n → ¬ (IsCharBoundary text i)) → at ≡ nearest text n
nearest_is text n at up fits last = nearest_by text n at (up, fits, last) (ltb n (length text)) refl

pub IsCharBoundary_min : (text : List ℕ) (a b : ℕ) → IsCharBoundary text a → IsCharBoundary text b → IsCharBoundary text (min a b)
IsCharBoundary_min text a b x y =
    elim (cases_lt a b) as (λ _. IsCharBoundary text (min a b)) [
      | inl less ↦ let e : min a b ≡ a = omega arith in subst (IsCharBoundary text) (sym e) x
      | inr le ↦ let e : min a b ≡ b = omega arith in subst (IsCharBoundary text) (sym e) y
    ]

-- the line of a place, by the ends that the cache returns
pub line_at_is : (text : List ℕ) (at begin end stop : ℕ) → begin ≡ (whole_lines text (at_place at)).start → end ≡ (whole_lines text (at_place at)).end → stop ≡ before_return text (span begin end) →
    span begin stop ≡ line_at text at
line_at_is text at begin end stop a b c =
    let lines = whole_lines text (at_place at) in
    ap (λ (s : ℕ). span begin s) c ∙ ap (λ (x : ℕ). span x (before_return text (span x end))) a ∙ ap (λ (x : ℕ). span lines.start (before_return text (span lines.start x))) b

-- a heading and an excerpt, added one after the other
pub placed : (file text message out mid new : List ℕ) (x : Span) (at to : ℕ) (p : ℕ × ℕ) → at ≡ nearest text x.start → to ≡ nearest text x.end → p ≡ place_of text at → mid ≡ out ++ heading file p.0 p.1 message →
    new ≡ mid ++ excerpt text at to → new ≡ out ++ place_text file text x message
unfolding place_text
placed file text message out mid new x at to p a b c d e =
    let shown = λ (q : ℕ × ℕ) (i j : ℕ). out ++ (heading file q.0 q.1 message ++ excerpt text i j) in
    e ∙ ap (λ (s : List ℕ). s ++ excerpt text at to) d ∙ append_assoc out (heading file p.0 p.1 message) (excerpt text at to)
    ∙ ap (λ (q : ℕ × ℕ). shown q at to) c ∙ ap (λ (i : ℕ). shown (place_of text i) i to) a ∙ ap (λ (j : ℕ). shown (place_of text (nearest text x.start)) (nearest text x.start) j) b
