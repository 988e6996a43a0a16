-- Parts of a text from its front on.
use Rattle.std.proofs.Common.{◌≡◌, ℕ, ◌+◌, ◌-◌, ◌≤◌, Bool, true, false, List, [], ◌∷◌, ◌++◌, length, take, drop, None, refl, sym, ap, subst, ◌∙◌, arith, append-nil, take-append-drop, IsCharBoundary, IsUtf8}
use Rattle.std.specs.Prelude.{encode_utf8_all, not}
use Rattle.std.specs.Char.{encode_utf8}
use Rattle.std.specs.List.{before_first}
use Rattle.std.specs.Str.{chars, NonePass}
use Rattle.std.specs.Str.Pattern.{MatchBeginsAt}
use Rattle.std.specs.Fn.{Mut, AlwaysReturns}
use Rattle.std.proofs.Math.Seq.{take-add}
use Rattle.std.proofs.lemmas.List.{length-drop, length-take, drop-take, take-take}
use Rattle.std.proofs.lemmas.List.Sums.{take_while-cons}
use Rattle.std.proofs.lemmas.Str.{encodes-chars, encodes_same, IsCharBoundary-from_take, IsUtf8-append, IsUtf8-take}
use Rattle.lrlex_parser.specs.Escape.{first_char}
use Rattle.lrlex_parser.proofs.Cuts.{FindsByCalls, chars_around}

-- ---- up to the first character that passes
none_before : (p : ℕ → Bool) (cs : List ℕ) → NonePass p cs → before_first p cs ≡ cs
none_before p [] h = refl
none_before p (c ∷ cs) h = let fails : p c ≡ false = h.0 in take_while-cons (λ x. not (p x)) c cs ∙ rw fails (ap (λ (x : List ℕ). c ∷ x) (none_before p cs h.1))

first_at : (p : ℕ → Bool) (cs : List ℕ) (c : ℕ) (ds : List ℕ) → NonePass p cs → p c ≡ true → before_first p (cs ++ c ∷ ds) ≡ cs
first_at p [] c ds h k = take_while-cons (λ x. not (p x)) c ds ∙ rw k refl
first_at p (d ∷ cs) c ds h k = let fails : p d ≡ false = h.0 in take_while-cons (λ x. not (p x)) d (cs ++ c ∷ ds) ∙ rw fails (ap (λ (x : List ℕ). d ∷ x) (first_at p cs c ds h.1 k))

pub up_to_first : {F : Type 0} {g : Mut F (ℕ × Unit {0}) Bool} {f : F} (p : ℕ → Bool) (s : List ℕ) (i : ℕ) → MatchBeginsAt (FindsByCalls g f) s i → AlwaysReturns g (λ a b. b ≡ p a.0) f → IsUtf8 s
    → take i s ≡ encode_utf8_all (before_first p (chars s))
up_to_first p s i (j, all, _, _, _) always u =
    let found = all p always in
    let cs = found.0.0 in
    let c = found.1.0 in
    let at = found.1.2 in
    let front : encode_utf8_all cs ≡ take i s = found.0.1 in
    let whole : s ≡ encode_utf8_all cs ++ (encode_utf8 c ++ drop j s) =
    sym (take-append-drop i s) ∙ ap (λ (x : List ℕ). take i s ++ x) at.split ∙ ap (λ (x : List ℕ). x ++ (encode_utf8 c ++ drop j s)) (sym front) in
    sym front ∙ ap encode_utf8_all (sym (ap (before_first p) (chars_around cs c s (drop j s) u whole) ∙ first_at p cs c (chars (drop j s)) found.0.2 found.1.1))

pub up_to_none : {F : Type 0} {g : Mut F (ℕ × Unit {0}) Bool} {f : F} (p : ℕ → Bool) (s : List ℕ) → FindsByCalls g f s None → AlwaysReturns g (λ a b. b ≡ p a.0) f → IsUtf8 s → s ≡ encode_utf8_all (before_first p (chars s))
up_to_none p s all always u =
    let found = all p always in
    let cs : found.0 ≡ chars s = encodes_same found.0 (chars s) (found.1 ∙ sym (encodes-chars s u)) in
    sym (encodes-chars s u) ∙ ap encode_utf8_all (sym (none_before p (chars s) (subst (λ (x : List ℕ). NonePass p x) cs found.2)))

-- ---- fronts of fronts
pub front_of_front : (text part more : List ℕ) → part ≡ take (length part) text → more ≡ take (length more) part → length more ≤ length part → more ≡ take (length more) text
front_of_front text part more a b le = b ∙ ap (take (length more)) a ∙ take-take (length more) (length part) text le

-- ---- the first character
pub first_char_is : (s rest : List ℕ) (c : ℕ) → IsUtf8 s → s ≡ encode_utf8 c ++ rest → first_char s ≡ encode_utf8 c
first_char_is s rest c u e = ap (λ (x : List ℕ). encode_utf8_all (take 1 x)) (chars_around [] c s rest u e) ∙ append-nil (encode_utf8 c)

-- ---- where a front ends
pub front_end : (text : List ℕ) (at : ℕ) (part : List ℕ) → IsUtf8 text → IsUtf8 part → IsCharBoundary text at → part ≡ take (length part) (drop at text) → length part ≤ length (drop at text) → IsCharBoundary text (at + length part)
front_end text at part u up h e le =
    let front : take (at + length part) text ≡ take at text ++ part = take-add at (length part) text ∙ ap (λ (x : List ℕ). take at text ++ x) (sym e) in
    IsCharBoundary-from_take text (at + length part) u (omega (arith, h.0, le, length-drop at text)) (subst IsUtf8 (sym front) (IsUtf8-append (take at text) part (IsUtf8-take text at u h) up))

-- a front of what is behind a place of a front
pub front_behind : (text front part : List ℕ) (at : ℕ) → front ≡ take (length front) text → at ≤ length front → part ≡ take (length part) (drop at front) → length part ≤ length (drop at front)
    → (part ≡ take (length part) (drop at text)) × (length part ≤ length (drop at text))
front_behind text front part at e le is short =
    let m = length front - at in
    let whole : length front ≡ at + m = omega arith in
    let rest : drop at front ≡ take m (drop at text) = ap (drop at) (e ∙ ap (λ (k : ℕ). take k text) whole) ∙ drop-take at m text in
    let inside : length part ≤ length (take m (drop at text)) = subst (λ (t : List ℕ). length part ≤ length t) rest short in
    (is ∙ ap (take (length part)) rest ∙ take-take (length part) m (drop at text) (omega (arith, length-take m (drop at text))), omega (arith, length-take m (drop at text)))
