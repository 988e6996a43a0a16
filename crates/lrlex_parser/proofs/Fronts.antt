-- What stands at the front of a text.
use Rattle.std.proofs.Common.{◌≡◌, ℕ, ◌-◌, Bool, true, false, List, [], ◌∷◌, ◌++◌, length, take, drop, Option, Some, None, refl, sym, ap, subst, ◌∙◌, arith}
use Rattle.std.specs.Prelude.{encode_utf8_all, MatchOption, if◌then◌else◌, nat_lt, not, slice_range}
use Rattle.std.specs.Bool.{MatchBool}
use Rattle.std.specs.Char.{encode_utf8}
use Rattle.std.specs.List.{before_first, prefix_len}
use Rattle.std.specs.Str.{chars, all_scalars, IsUtf8, IsCharBoundary, NonePass}
use Rattle.std.specs.Str.Pattern.{FindsPrefixBy, MatchBeginsAt, HasPrefixMatch}
use Rattle.std.specs.Fn.{Mut, AlwaysReturns}
use Rattle.std.specs.Cmp.{first_so}
use Rattle.std.proofs.lemmas.Str.{encodes-chars, encodes_same, scalars-chars, IsCharBoundary-from_drop, IsUtf8-drop}
use Rattle.std.proofs.lemmas.List.{append-nil, append_assoc, take-append-drop, length-append}
use Rattle.std.proofs.lemmas.List.Sums.{take_while-cons}
use Rattle.std.proofs.Math.Seq.{take-append_seam}
use Rattle.std.proofs.lemmas.List.Prefix.{end_rest}
use Rattle.std.specs.declared.str.Chars.{Chars}
use Rattle.std.specs.Str.Iter.{chars_rest}
use Rattle.lrlex_parser.specs.Text.{trim_end}
use Rattle.lrlex_base.specs.Classes.{is_white_space}
use Rattle.lrlex_parser.specs.Declaration.{first_word}
use Rattle.lrlex_parser.specs.Escape.{first_char, ends_in_escape, trim_head}
use Rattle.lrlex_parser.proofs.Cuts.{FindsByCalls, chars_around}

-- ---- what stands before the first character that passes
before_first_none : (p : ℕ → Bool) (cs : List ℕ) → NonePass p cs → before_first p cs ≡ cs
before_first_none p [] h = refl
before_first_none p (c ∷ cs) h = let fails : p c ≡ false = h.0 in take_while-cons (λ x. not (p x)) c cs ∙ rw fails (ap (λ (x : List ℕ). c ∷ x) (before_first_none p cs h.1))

before_first_at : (p : ℕ → Bool) (cs : List ℕ) (c : ℕ) (ds : List ℕ) → NonePass p cs → p c ≡ true → before_first p (cs ++ c ∷ ds) ≡ cs
before_first_at p [] c ds h k = take_while-cons (λ x. not (p x)) c ds ∙ rw k refl
before_first_at p (d ∷ cs) c ds h k = let fails : p d ≡ false = h.0 in take_while-cons (λ x. not (p x)) d (cs ++ c ∷ ds) ∙ rw fails (ap (λ (x : List ℕ). d ∷ x) (before_first_at p cs c ds h.1 k))

pub word_found : {F : Type 0} {g : Mut F (ℕ × Unit {0}) Bool} {f : F} (s word : List ℕ) (i : ℕ) → MatchBeginsAt (FindsByCalls g f) s i → AlwaysReturns g (λ a b. b ≡ is_white_space a.0) f → IsUtf8 s → word ≡ take i s → word ≡ first_word s
word_found s word i (j, all, _, _, _) always u is =
    let found = all is_white_space always in
    let cs = found.0.0 in
    let c = found.1.0 in
    let at = found.1.2 in
    let front : encode_utf8_all cs ≡ take i s = found.0.1 in
    let whole : s ≡ encode_utf8_all cs ++ (encode_utf8 c ++ drop j s) =
    sym (take-append-drop i s) ∙ ap (λ (x : List ℕ). take i s ++ x) at.split ∙ ap (λ (x : List ℕ). x ++ (encode_utf8 c ++ drop j s)) (sym front) in
    is ∙ sym front ∙ ap encode_utf8_all (sym (ap (before_first is_white_space) (chars_around cs c s (drop j s) u whole) ∙ before_first_at is_white_space cs c (chars (drop j s)) found.0.2 found.1.1))

pub word_alone : {F : Type 0} {g : Mut F (ℕ × Unit {0}) Bool} {f : F} (s : List ℕ) → FindsByCalls g f s None → AlwaysReturns g (λ a b. b ≡ is_white_space a.0) f → IsUtf8 s → s ≡ first_word s
word_alone s all always u =
    let found = all is_white_space always in
    let cs : found.0 ≡ chars s = encodes_same found.0 (chars s) (found.1 ∙ sym (encodes-chars s u)) in
    sym (encodes-chars s u) ∙ ap encode_utf8_all (sym (before_first_none is_white_space (chars s) (subst (λ (x : List ℕ). NonePass is_white_space x) cs found.2)))

-- ---- whether the first character passes
some_pass : (p : ℕ → Bool) (c : ℕ) (cs : List ℕ) → p c ≡ true → true ≡ nat_lt 0 (prefix_len p (c ∷ cs))
some_pass p c cs h = rw h (sym (grind arith))

none_pass : (p : ℕ → Bool) (cs : List ℕ) → ((c : ℕ) (rest : List ℕ) → cs ≡ c ∷ rest → p c ≡ false) → false ≡ nat_lt 0 (prefix_len p cs)
none_pass p [] h = refl
none_pass p (c ∷ cs) h = let fails : p c ≡ false = h c cs refl in rw fails refl

abbrev PrefixByCalls : {F : Type 0} → Mut F (ℕ × Unit {0}) Bool → F → List ℕ → Option ℕ → Type 0
PrefixByCalls g f m o = (k : ℕ → Bool) → AlwaysReturns g (λ a b. b ≡ k a.0) f → FindsPrefixBy k m o

pub first_passes : {F : Type 0} {g : Mut F (ℕ × Unit {0}) Bool} {f : F} (p : ℕ → Bool) (s : List ℕ) (r : Bool) → MatchBool r (HasPrefixMatch (PrefixByCalls g f) s) (PrefixByCalls g f s None) → AlwaysReturns g (λ a b. b ≡ p a.0) f → IsUtf8 s
    → r ≡ nat_lt 0 (prefix_len p (chars s))
first_passes p s true (n, all, _) always u =
    let at = all p always in
    some_pass p at.0 (chars (drop n s)) at.1 ∙ ap (λ (x : List ℕ). nat_lt 0 (prefix_len p x)) (sym (chars_around [] at.0 s (drop n s) u at.2.split))
first_passes p s false all always u =
    none_pass p (chars s) (λ c rest e. all p always c (encode_utf8_all rest) (first_so _ _ (ap all_scalars (sym e) ∙ scalars-chars s u)) (sym (encodes-chars s u) ∙ ap encode_utf8_all e))

-- ---- a text without its first character
empty_text : (s : List ℕ) → length s ≡ 0 → s ≡ []
empty_text [] h = refl
empty_text (x ∷ xs) h = absurd (omega arith)

first_char_none : first_char [] ≡ []
unfolding chars
first_char_none = refl

first_char_next : (s t : List ℕ) (r : Option ℕ) → MatchOption r ((length s ≡ 0) × (t ≡ s)) (λ c. s ≡ encode_utf8 c ++ t) → IsUtf8 s → s ≡ first_char s ++ t
first_char_next s t None (none, same) u = let e = empty_text s none in e ∙ sym (ap first_char e ∙ first_char_none) ∙ sym (append-nil (first_char s)) ∙ ap (λ (x : List ℕ). first_char s ++ x) (sym (same ∙ e))
first_char_next s t (Some c) e u =
    let is : first_char s ≡ encode_utf8 c = ap (λ (x : List ℕ). encode_utf8_all (take 1 x)) (chars_around [] c s t u e) ∙ append-nil (encode_utf8 c) in
    e ∙ ap (λ (x : List ℕ). x ++ t) (sym is)

pub seam_after : (s kept dropped t : List ℕ) → s ≡ kept ++ dropped → dropped ≡ first_char dropped ++ t → IsUtf8 t → IsCharBoundary s (length s - length t)
seam_after s kept dropped t e h u =
    let whole : s ≡ (kept ++ first_char dropped) ++ t = e ∙ ap (λ (x : List ℕ). kept ++ x) h ∙ sym (append_assoc kept (first_char dropped) t) in
    IsCharBoundary-from_drop s (length s - length t) (omega arith) (subst IsUtf8 (sym (end_rest s t (kept ++ first_char dropped) whole)) u)

take_front : (s front back : List ℕ) → s ≡ front ++ back → take (length s - length back) s ≡ front
take_front s front back e =
    let n : length s - length back ≡ length front = omega (arith, length-append front back, ap (length {A = ℕ}) e) in
    ap (λ (k : ℕ). take k s) n ∙ ap (take (length front)) e ∙ take-append_seam front back

pub kept_after : (s kept dropped t : List ℕ) → s ≡ kept ++ dropped → dropped ≡ first_char dropped ++ t → take (length s - length t) s ≡ kept ++ first_char dropped
kept_after s kept dropped t e h = take_front s (kept ++ first_char dropped) t (e ∙ ap (λ (x : List ℕ). kept ++ x) h ∙ sym (append_assoc kept (first_char dropped) t))

by_rest : (x y : Chars) (r : Option ℕ) → MatchOption r ((length (chars_rest x) ≡ 0) × (y ≡ x)) (λ c. chars_rest x ≡ encode_utf8 c ++ chars_rest y) → MatchOption r ((length (chars_rest x) ≡ 0) × (chars_rest y ≡ chars_rest x)) (λ c. chars_rest x ≡ encode_utf8 c ++ chars_rest y)
by_rest x y None h = (h.0, ap chars_rest h.1)
by_rest x y (Some c) h = h

-- one call of `next` at what stands behind the front of a text
pub next_behind : (s : List ℕ) (n : ℕ) (x y : Chars) (r : Option ℕ) → MatchOption r ((length (chars_rest x) ≡ 0) × (y ≡ x)) (λ c. chars_rest x ≡ encode_utf8 c ++ chars_rest y)
    → chars_rest x ≡ drop n s → IsUtf8 s → IsCharBoundary s n → drop n s ≡ first_char (drop n s) ++ chars_rest y
next_behind s n x y r h e u b = let same = by_rest x y r h in subst (λ (w : List ℕ). w ≡ first_char w ++ chars_rest y) e (first_char_next (chars_rest x) (chars_rest y) r same (subst IsUtf8 (sym e) (IsUtf8-drop s n u b)))

-- a head that ends in an escape
pub escaped_head : (head kept t : List ℕ) → kept ≡ trim_end head → ends_in_escape kept ≡ true → kept ≡ take (length kept) head → drop (length kept) head ≡ first_char (drop (length kept) head) ++ t → take (length head - length t) head ≡ trim_head head
escaped_head head kept t is escaped front behind =
    let whole : head ≡ kept ++ drop (length kept) head = sym (take-append-drop (length kept) head) ∙ ap (λ (x : List ℕ). x ++ drop (length kept) head) (sym front) in
    let P : List ℕ → Type 0 = λ k. (if ends_in_escape k then k ++ first_char (drop (length k) head) else k) ≡ kept ++ first_char (drop (length kept) head) in
    kept_after head kept (drop (length kept) head) t whole behind ∙ sym (subst P is (rw escaped refl))

pub plain_head : (head kept : List ℕ) → kept ≡ trim_end head → ends_in_escape kept ≡ false → kept ≡ trim_head head
plain_head head kept is escaped =
    let P : List ℕ → Type 0 = λ k. kept ≡ (if ends_in_escape k then k ++ first_char (drop (length k) head) else k) in
    subst P is (rw escaped refl)

pub range_front : (s : List ℕ) (n : ℕ) → slice_range s 0 n ≡ take n s
range_front s n = ap (λ (k : ℕ). take k s) (omega arith)
