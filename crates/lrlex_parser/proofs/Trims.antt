-- What std's text methods give at a test of characters, in the words of `specs/Text.antt`.
use Rattle.std.proofs.Common.{◌≡◌, ℕ, ◌-◌, Bool, true, false, List, [], ◌∷◌, ◌++◌, length, take, drop, Option, Some, None, refl, sym, ap, ◌∙◌, arith, rules}
use Rattle.std.specs.Prelude.{encode_utf8_all}
use Rattle.std.specs.Char.{encode_utf8, IsScalar}
use Rattle.std.specs.List.{list_all}
use Rattle.std.specs.Str.{chars, all_scalars, IsUtf8}
use Rattle.std.specs.Str.Pattern.{CutsSuffixes, CutsPrefixes, IsFullyTrimmed, IsTrimEndMatches, IsTrimStartMatches, FindsSuffixBy, FindsPrefixBy}
use Rattle.std.proofs.lemmas.Str.{encodes-chars, encodes-append, encodes_same, scalars-chars, len_utf8_bounds}
use Rattle.std.proofs.lemmas.List.{append-nil, append_assoc, take-append-drop}
use Rattle.std.specs.Cmp.{first_so, second_so}
use Rattle.std.specs.Fn.{Mut, AlwaysReturns}
use Rattle.lrlex_parser.specs.Text.{drop_trailing, unless_last, skip_leading}
use Rattle.lrlex_parser.proofs.Cuts.{chars_behind}

-- ---- lists of characters
pub drop_trailing_all : (p : ℕ → Bool) (ws : List ℕ) → list_all p ws ≡ true → drop_trailing p ws ≡ []
drop_trailing_all p [] h = refl
drop_trailing_all p (c ∷ cs) h =
    let first : p c ≡ true = search rules in
    let rest : list_all p cs ≡ true = search rules in
    ap (unless_last p c) (drop_trailing_all p cs rest) ∙ rw first refl

-- what passes at the end is dropped
pub drop_trailing-append : (p : ℕ → Bool) (cs ws : List ℕ) → list_all p ws ≡ true → drop_trailing p (cs ++ ws) ≡ drop_trailing p cs
drop_trailing-append p [] ws h = drop_trailing_all p ws h
drop_trailing-append p (c ∷ cs) ws h = rw (drop_trailing-append p cs ws h) refl

-- the last of the characters, if there is one, fails
abbrev pub LastFails : (ℕ → Bool) → List ℕ → Type 0
LastFails p cs = (front : List ℕ) (c : ℕ) → cs ≡ front ++ (c ∷ []) → p c ≡ false

pub drop_trailing_same : (p : ℕ → Bool) (cs : List ℕ) → LastFails p cs → drop_trailing p cs ≡ cs
drop_trailing_same p [] h = refl
drop_trailing_same p (c ∷ []) h = let fails : p c ≡ false = h [] c refl in rw fails refl
drop_trailing_same p (c ∷ d ∷ cs) h = ap (unless_last p c) (drop_trailing_same p (d ∷ cs) (λ front e same. h (c ∷ front) e (ap (λ (xs : List ℕ). c ∷ xs) same)))

-- ---- texts
-- a text that is cut in two
pub chars-seam : (s r : List ℕ) (ws : List ℕ) → IsUtf8 s → IsUtf8 r → s ≡ r ++ encode_utf8_all ws → chars s ≡ chars r ++ ws
chars-seam s r ws us ur e =
    let joined : encode_utf8_all (chars r ++ ws) ≡ s = encodes-append (chars r) ws ∙ ap (λ (x : List ℕ). x ++ encode_utf8_all ws) (encodes-chars r ur) ∙ sym e in
    encodes_same (chars s) (chars r ++ ws) (encodes-chars s us ∙ sym joined)

drop-all : (m : List ℕ) → drop (length m) m ≡ []
drop-all [] = refl
drop-all (x ∷ xs) = drop-all xs

-- what `trim_end_matches` cut off
pub cut_suffixes : (p : ℕ → Bool) (R : List ℕ → Option ℕ → Type 0) → ((m : List ℕ) (o : Option ℕ) → R m o → FindsSuffixBy p m o) → (s : List ℕ) (ns r : List ℕ) → CutsSuffixes R s ns r
    → (ws : List ℕ) × (list_all p ws ≡ true) × (s ≡ r ++ encode_utf8_all ws)
cut_suffixes p R finds s [] r h = ([], refl, sym (append-nil r ∙ h))
cut_suffixes p R finds s (n ∷ ns) r (m, before, found, e) =
    let cut = cut_suffixes p R finds s ns m before in
    let at = finds m (Some n) found in
    let c = at.0 in
    let i = length m - n in
    let ends : m ≡ r ++ encode_utf8 c = sym (take-append-drop i m) ∙ ap (λ (x : List ℕ). take i m ++ x) (at.2.split ∙ ap (λ (x : List ℕ). encode_utf8 c ++ x) (drop-all m) ∙ append-nil (encode_utf8 c)) ∙ ap (λ (x : List ℕ). x ++ encode_utf8 c) (sym e) in
    (c ∷ cut.0, rw at.1 cut.1, cut.2 ∙ ap (λ (x : List ℕ). x ++ encode_utf8_all cut.0) ends ∙ append_assoc r (encode_utf8 c) (encode_utf8_all cut.0))

scalar_last : (front : List ℕ) (c : ℕ) → all_scalars (front ++ (c ∷ [])) ≡ true → IsScalar c
scalar_last [] c h = first_so _ _ h
scalar_last (d ∷ front) c h = scalar_last front c (second_so _ _ h)

pub last_fails : (p : ℕ → Bool) (R : List ℕ → Option ℕ → Type 0) → ((m : List ℕ) (o : Option ℕ) → R m o → FindsSuffixBy p m o) → (r : List ℕ) → IsUtf8 r → IsFullyTrimmed R r → LastFails p (chars r)
last_fails p R finds r u (None, found, empty) = λ front c e.
    finds r None found c (encode_utf8_all front) (scalar_last front c (ap all_scalars (sym e) ∙ scalars-chars r u))
    (sym (encodes-chars r u) ∙ ap encode_utf8_all e ∙ encodes-append front (c ∷ []) ∙ ap (λ (x : List ℕ). encode_utf8_all front ++ x) (append-nil (encode_utf8 c)))
last_fails p R finds r u (Some n, found, empty) = let at = finds r (Some n) found in let wide = len_utf8_bounds at.0 in let ends = at.2.ends in absurd (omega arith)

-- what `trim_end_matches` gives at a test that calls by p
pub trim_end_matches_is : (p : ℕ → Bool) (R : List ℕ → Option ℕ → Type 0) → ((m : List ℕ) (o : Option ℕ) → R m o → FindsSuffixBy p m o) → (s r : List ℕ) → IsUtf8 s → IsUtf8 r → IsTrimEndMatches R s r
    → r ≡ encode_utf8_all (drop_trailing p (chars s))
trim_end_matches_is p R finds s r us ur (cut, full) =
    let parts = cut_suffixes p R finds s cut.0 r cut.1 in
    let kept : drop_trailing p (chars s) ≡ chars r =
    ap (drop_trailing p) (chars-seam s r parts.0 us ur parts.2) ∙ drop_trailing-append p (chars r) parts.0 parts.1 ∙ drop_trailing_same p (chars r) (last_fails p R finds r ur full) in
    sym (encodes-chars r ur) ∙ ap encode_utf8_all (sym kept)

-- the same at a closure whose calls all answer by p
pub trim_end_matches_closure : {F : Type 0} {g : Mut F (ℕ × Unit {0}) Bool} {f : F} (p : ℕ → Bool) (s r : List ℕ) → IsTrimEndMatches (λ m o. (k : ℕ → Bool) → AlwaysReturns g (λ a b. b ≡ k a.0) f → FindsSuffixBy k m o) s r
    → AlwaysReturns g (λ a b. b ≡ p a.0) f → IsUtf8 s → IsUtf8 r → r ≡ encode_utf8_all (drop_trailing p (chars s))
trim_end_matches_closure {F} {g} {f} p s r h always us ur = trim_end_matches_is p (λ m o. (k : ℕ → Bool) → AlwaysReturns g (λ a b. b ≡ k a.0) f → FindsSuffixBy k m o) (λ m o found. found p always) s r us ur h

-- ---- the front
pub skip_leading-append : (p : ℕ → Bool) (ws cs : List ℕ) → list_all p ws ≡ true → skip_leading p (ws ++ cs) ≡ skip_leading p cs
skip_leading-append p [] cs h = refl
skip_leading-append p (c ∷ ws) cs h =
    let first : p c ≡ true = first_so _ _ h in
    let rest : list_all p ws ≡ true = second_so _ _ h in
    rw first (skip_leading-append p ws cs rest)

-- the first of the characters, if there is one, fails
abbrev pub FirstFails : (ℕ → Bool) → List ℕ → Type 0
FirstFails p cs = (c : ℕ) (rest : List ℕ) → cs ≡ c ∷ rest → p c ≡ false

pub skip_leading_same : (p : ℕ → Bool) (cs : List ℕ) → FirstFails p cs → skip_leading p cs ≡ cs
skip_leading_same p [] h = refl
skip_leading_same p (c ∷ cs) h = let fails : p c ≡ false = h c cs refl in rw fails refl

all-push : (p : ℕ → Bool) (ws : List ℕ) (c : ℕ) → list_all p ws ≡ true → p c ≡ true → list_all p (ws ++ c ∷ []) ≡ true
all-push p [] c h k = rw k refl
all-push p (w ∷ ws) c h k = let first : p w ≡ true = first_so _ _ h in rw first (all-push p ws c (second_so _ _ h) k)

-- what `trim_start_matches` cut off
pub cut_prefixes : (p : ℕ → Bool) (R : List ℕ → Option ℕ → Type 0) → ((m : List ℕ) (o : Option ℕ) → R m o → FindsPrefixBy p m o) → (s : List ℕ) (ns r : List ℕ) → CutsPrefixes R s ns r
    → (ws : List ℕ) × (list_all p ws ≡ true) × (s ≡ encode_utf8_all ws ++ r)
cut_prefixes p R finds s [] r h = ([], refl, sym h)
cut_prefixes p R finds s (n ∷ ns) r (m, before, found, e) =
    let cut = cut_prefixes p R finds s ns m before in
    let at = finds m (Some n) found in
    let c = at.0 in
    let begins : m ≡ encode_utf8 c ++ r = at.2.split ∙ ap (λ (x : List ℕ). encode_utf8 c ++ x) (sym e) in (
      cut.0 ++ c ∷ [],
      all-push p cut.0 c cut.1 at.1,
      cut.2 ∙ ap (λ (x : List ℕ). encode_utf8_all cut.0 ++ x) begins
          ∙ sym (append_assoc (encode_utf8_all cut.0) (encode_utf8 c) r) ∙ ap (λ (x : List ℕ). x ++ r) (sym (encodes-append cut.0 (c ∷ []) ∙ ap (λ (x : List ℕ). encode_utf8_all cut.0 ++ x) (append-nil (encode_utf8 c)))),
    )

-- a text that is cut in two, by the characters of its front
pub chars_from : (s r : List ℕ) (ws : List ℕ) → IsUtf8 s → IsUtf8 r → s ≡ encode_utf8_all ws ++ r → chars s ≡ ws ++ chars r
chars_from s r ws us ur e =
    let behind = chars_behind ws (chars s) r (encodes-chars s us ∙ e) in
    behind.1 ∙ ap (λ (x : List ℕ). ws ++ x) (encodes_same behind.0 (chars r) (behind.2 ∙ sym (encodes-chars r ur)))

pub first_fails : (p : ℕ → Bool) (R : List ℕ → Option ℕ → Type 0) → ((m : List ℕ) (o : Option ℕ) → R m o → FindsPrefixBy p m o) → (r : List ℕ) → IsUtf8 r → IsFullyTrimmed R r → FirstFails p (chars r)
first_fails p R finds r u (None, found, empty) = λ c rest e.
    finds r None found c (encode_utf8_all rest) (first_so _ _ (ap all_scalars (sym e) ∙ scalars-chars r u)) (sym (encodes-chars r u) ∙ ap encode_utf8_all e)
first_fails p R finds r u (Some n, found, empty) = let at = finds r (Some n) found in let wide = len_utf8_bounds at.0 in let ends = at.2.ends in absurd (omega arith)

pub trim_start_matches_is : (p : ℕ → Bool) (R : List ℕ → Option ℕ → Type 0) → ((m : List ℕ) (o : Option ℕ) → R m o → FindsPrefixBy p m o) → (s r : List ℕ) → IsUtf8 s → IsUtf8 r → IsTrimStartMatches R s r
    → r ≡ encode_utf8_all (skip_leading p (chars s))
trim_start_matches_is p R finds s r us ur (cut, full) =
    let parts = cut_prefixes p R finds s cut.0 r cut.1 in
    let kept : skip_leading p (chars s) ≡ chars r =
    ap (skip_leading p) (chars_from s r parts.0 us ur parts.2) ∙ skip_leading-append p parts.0 (chars r) parts.1 ∙ skip_leading_same p (chars r) (first_fails p R finds r ur full) in
    sym (encodes-chars r ur) ∙ ap encode_utf8_all (sym kept)

pub trim_start_matches_closure : {F : Type 0} {g : Mut F (ℕ × Unit {0}) Bool} {f : F} (p : ℕ → Bool) (s r : List ℕ) → IsTrimStartMatches (λ m o. (k : ℕ → Bool) → AlwaysReturns g (λ a b. b ≡ k a.0) f → FindsPrefixBy k m o) s r
    → AlwaysReturns g (λ a b. b ≡ p a.0) f → IsUtf8 s → IsUtf8 r → r ≡ encode_utf8_all (skip_leading p (chars s))
trim_start_matches_closure {F} {g} {f} p s r h always us ur = trim_start_matches_is p (λ m o. (k : ℕ → Bool) → AlwaysReturns g (λ a b. b ≡ k a.0) f → FindsPrefixBy k m o) (λ m o found. found p always) s r us ur h
