-- Characters that are added one after the other, and those at the end of a text.
use Rattle.std.proofs.Common.{◌≡◌, inl, inr, ℕ, ◌+◌, ◌-◌, ◌<◌, ◌≤◌, Bool, true, false, cond, ltb, List, [], ◌∷◌, ◌++◌, length, take, drop, replicate, codes, refl, sym, ap, subst, ◌∙◌, arith, append_assoc, append-nil}
use Rattle.std.specs.Prelude.{Option, None, Some, is_some, option_map, slice_get, flat_map, IsUtf8}
use Rattle.std.specs.Str.{chars}
use Rattle.std.specs.Str.Iter.{chars_rest, chars_steps_back}
use Rattle.std.proofs.Math.Utf8.{encode}
use Rattle.std.proofs.lemmas.Bool.{cases_lt, lt-ltb, le-ltb}
use Rattle.std.proofs.lemmas.List.{replicate-append-replicate, length-append, take_at, drop_at, nil_from_length}
use Rattle.std.proofs.lemmas.List.Concat.{flat_map-append}
use Rattle.std.proofs.lemmas.Option.{slice_get-get_or, slice_get_past}
use Rattle.std.proofs.lemmas.Str.{IsUtf8-nil, IsUtf8-append, IsUtf8-drop, IsCharBoundary-from_take, chars_past_char, chars-append, chars-nil}
use Rattle.unicode_width.specs.Width.{char_width}
use Rattle.lrlex_report.specs.Carets.{padding, or_caret}

-- one character more adds what it stands for
pub one_more : (f : ℕ → List ℕ) (old out new cs : List ℕ) (c : ℕ) → out ≡ old ++ flat_map f cs → new ≡ out ++ f c → new ≡ old ++ flat_map f (cs ++ c ∷ [])
one_more f old out new cs c e h =
    h ∙ ap (λ s. s ++ f c) e ∙ append_assoc old (flat_map f cs) (f c)
    ∙ ap (λ s. old ++ s) (ap (λ s. flat_map f cs ++ s) (sym (append-nil (f c))) ∙ sym (flat_map-append f cs (c ∷ [])))

-- the character once more
pub replicate_more : (old : List ℕ) (n x : ℕ) → (old ++ replicate n x) ++ x ∷ [] ≡ old ++ replicate (n + 1) x
replicate_more old n x = append_assoc old (replicate n x) (x ∷ []) ∙ ap (λ xs. old ++ xs) (replicate-append-replicate n 1 x)

-- nothing was added, and so one caret is
pub or_caret_none : (old new xs : List ℕ) → new ≡ old ++ xs → length new ≡ length old → new ++ 94 ∷ [] ≡ old ++ or_caret xs
or_caret_none old new [] e h = ap (λ s. s ++ 94 ∷ []) (e ∙ append-nil old)
or_caret_none old new (x ∷ xs) e h = absurd (omega (arith, ap length e, length-append old (x ∷ xs), h))

-- something was added
pub or_caret_some : (old new xs : List ℕ) → new ≡ old ++ xs → (length new ≡ length old → ⊥) → new ≡ old ++ or_caret xs
or_caret_some old new [] e h = absurd (h (ap length (e ∙ append-nil old)))
or_caret_some old new (x ∷ xs) e h = e

-- blanks under `...`, and what goes under the characters behind it
pub padded : (b : Bool) (out mid new cs : List ℕ) → mid ≡ out ++ cond b (codes "   ") [] → new ≡ mid ++ padding cs
    → new ≡ out ++ padding (cond b (codes "...") [] ++ cs)
unfolding char_width
padded false out mid new cs e f = f ∙ ap (λ (s : List ℕ). s ++ padding cs) (e ∙ append-nil out)
padded true out mid new cs e f = f ∙ ap (λ (s : List ℕ). s ++ padding cs) e ∙ append_assoc out (codes "   ") (padding cs)

-- an element that is there
is_some_read : (xs : List ℕ) (n : ℕ) → is_some (slice_get xs n) ≡ ltb n (length xs)
is_some_read xs n =
    elim (cases_lt n (length xs)) as (λ _. is_some (slice_get xs n) ≡ ltb n (length xs)) [
      | inl less ↦ ap is_some (slice_get-get_or xs n 0 less) ∙ sym (lt-ltb n (length xs) less)
      | inr le ↦ ap is_some (slice_get_past xs n le) ∙ sym (le-ltb n (length xs) le)
    ]

is_some_map : (r : Option ℕ) → is_some r ≡ is_some (option_map (λ c. c) r)
is_some_map None = refl
is_some_map (Some c) = refl

pub has_nth : (xs : List ℕ) (n : ℕ) (r : Option ℕ) → option_map (λ c. c) r ≡ slice_get xs n → is_some r ≡ ltb n (length xs)
has_nth xs n r e = is_some_map r ∙ ap is_some e ∙ is_some_read xs n

-- `before` is what stands in the text before its last n characters, or before all of them where it has fewer
pub record IsBefore (text : List ℕ) (n : ℕ) (before : List ℕ) : Type 0 where
  pub last : List ℕ
  pub whole : text ≡ before ++ last
  pub front_utf8 : IsUtf8 before
  pub utf8 : IsUtf8 last
  pub most : length (chars last) ≤ n
  pub all : length (chars last) < n → length before ≡ 0

-- before no character
pub before_none : (text : List ℕ) → IsUtf8 text → IsBefore text 0 text
before_none text u = record {
  last = [];
  whole = sym (append-nil text);
  front_utf8 = u;
  utf8 = IsUtf8-nil;
  most = omega (arith, ap length chars-nil);
  all = λ h. omega (arith, h);
}

-- what a text ends with
end_utf8 : (text front end : List ℕ) → IsUtf8 text → IsUtf8 front → text ≡ front ++ end → IsUtf8 end
end_utf8 text front end u v e =
    let within : length front ≤ length text = omega (arith, ap length e, length-append front end) in
    let same : take (length front) text ≡ front = ap (take (length front)) e ∙ take_at front end (length front) (λ i. length front) in
    let fits = IsCharBoundary-from_take text (length front) u within (subst IsUtf8 (sym same) v) in
    subst IsUtf8 (ap (drop (length front)) e ∙ drop_at front end (length front) (λ i. length front)) (IsUtf8-drop text (length front) u fits)

-- one character more
before_more : (text before front : List ℕ) (n c : ℕ) → IsBefore text n before → IsUtf8 front → before ≡ front ++ encode c → IsBefore text (n + 1) front
before_more text before front n c i u e =
    let one : IsUtf8 (encode c) = end_utf8 before front (encode c) i.front_utf8 u e in
    let utf8 : IsUtf8 (encode c ++ i.last) = IsUtf8-append (encode c) i.last one i.utf8 in
    let long : length (chars (encode c ++ i.last)) ≡ length (chars i.last) + 1 = omega (arith, ap length (chars_past_char (encode c ++ i.last) i.last c utf8 (λ j. encode c ++ i.last))) in
    record {
      last = encode c ++ i.last;
      whole = i.whole ∙ ap (λ xs. xs ++ i.last) e ∙ append_assoc front (encode c) i.last;
      front_utf8 = u;
      utf8 = utf8;
      most = omega (arith, long, i.most);
      all = λ h. omega (arith, i.all (omega (arith, h, long)), ap length e, length-append front (encode c));
    }

-- no character is left
before_end : (text before : List ℕ) (n : ℕ) → IsBefore text n before → length before ≡ 0 → IsBefore text (n + 1) before
before_end text before n i e =
    record { last = i.last; whole = i.whole; front_utf8 = i.front_utf8; utf8 = i.utf8; most = omega (arith, i.most); all = λ _. e }

-- one step back
pub before_step : (text : List ℕ) (n : ℕ) (r : Option ℕ) (s t : _) → IsBefore text n (chars_rest s) → IsUtf8 (chars_rest t) → chars_steps_back s r t → IsBefore text (n + 1) (chars_rest t)
before_step text n None s t i u e = subst (λ z. IsBefore text (n + 1) (chars_rest z)) (sym e.1) (before_end text (chars_rest s) n i e.0)
before_step text n (Some c) s t i u e = before_more text (chars_rest s) (chars_rest t) n c i u e

-- what follows has the last n characters
pub last_is : (text before : List ℕ) (n : ℕ) → (i : IsBefore text n before) → chars (drop (length before) text) ≡ drop (length (chars text) - n) (chars text)
last_is text before n i =
    let whole : chars text ≡ chars before ++ chars i.last = ap chars i.whole ∙ chars-append before i.last i.front_utf8 in
    let rest : drop (length before) text ≡ i.last = ap (drop (length before)) i.whole ∙ drop_at before i.last (length before) (λ j. length before) in
    let long : length (chars text) ≡ length (chars before) + length (chars i.last) = ap length whole ∙ length-append (chars before) (chars i.last) in
    let short : length (chars before) ≡ length (chars text) - n =
    elim (cases_lt (length (chars i.last)) n) as (λ _. length (chars before) ≡ length (chars text) - n) [
      | inl less ↦ omega (arith, less, long, ap (λ xs. length (chars xs)) (nil_from_length before (i.all less)), ap length chars-nil)
      | inr le ↦ omega (arith, le, long, i.most)
    ] in
    ap chars rest ∙ sym (ap (λ xs. drop (length (chars text) - n) xs) whole ∙ drop_at (chars before) (chars i.last) (length (chars text) - n) short)
