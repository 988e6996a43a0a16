-- Cutting a text at the characters that pass a test.
use Rattle.std.proofs.Common.{◌≡◌, ℕ, ◌+◌, ◌-◌, ◌<◌, ◌≤◌, zero, suc, Bool, true, false, List, [], ◌∷◌, ◌++◌, length, get_or, take, drop, ⊎_elim, Option, Some, None, refl, sym, ap, subst, ◌∙◌, arith}
use Rattle.std.specs.Prelude.{◌||◌, not, encode_utf8_all}
use Rattle.std.specs.Char.{encode_utf8, len_utf8}
use Rattle.std.specs.Str.{chars, all_scalars, IsUtf8, NonePass, NoCharPasses}
use Rattle.std.specs.Str.Pattern.{FindsBy, RFindsBy, SplitsAroundMatch}
use Rattle.std.proofs.lemmas.Str.{chars-encodes, encodes-chars, encodes_same, scalars-chars, length-encode, cons_from_encodes, NoCharPasses-byte, len_utf8_ascii, len_utf8_bounds}
use Rattle.std.proofs.lemmas.Bool.{cases_lt, true≢false}
use Rattle.std.specs.List.{list_any, suffix_len}
use Rattle.std.proofs.lemmas.List.Sums.{suffix_len_is}
use Rattle.std.proofs.lemmas.List.{append_assoc, take-append-drop, length-append, length-take, length-drop, get_or-drop}
use Rattle.std.specs.Cmp.{second_so}
use Rattle.std.specs.Fn.{Mut, AlwaysReturns}
use Rattle.std.specs.Prelude.{MatchOption, IfSome}
use Rattle.std.specs.Borrow.{Bor}
use Rattle.lrlex_parser.specs.Text.{piece, cut_chars, cut, onto_first_piece, SplitsAtLast}
use Rattle.lrlex_base.specs.Classes.{is_blank}
use Rattle.std.proofs.lemmas.Bool.Decides.{nat_tests}

-- ---- lists of characters
-- none passes: they are one piece
pub cut_chars_none : (p : ℕ → Bool) (o : ℕ) (cs : List ℕ) → NonePass p cs → cut_chars p o cs ≡ piece o (encode_utf8_all cs) ∷ []
cut_chars_none p o [] h = refl
cut_chars_none p o (c ∷ cs) h =
    let fails : p c ≡ false = h.0 in
    rw (fails) (ap (onto_first_piece o c) (cut_chars_none p (o + len_utf8 c) cs h.1))

-- the first piece ends before the first that passes
pub cut_chars_first : (p : ℕ → Bool) (o : ℕ) (cs : List ℕ) (c : ℕ) (ds : List ℕ) → NonePass p cs → p c ≡ true
    → cut_chars p o (cs ++ c ∷ ds) ≡ piece o (encode_utf8_all cs) ∷ cut_chars p (o + (length (encode_utf8_all cs) + len_utf8 c)) ds
cut_chars_first p o [] c ds h passes = rw passes (ap (λ (n : ℕ). piece o [] ∷ cut_chars p (o + n) ds) (omega arith))
cut_chars_first p o (d ∷ cs) c ds h passes =
    let fails : p d ≡ false = h.0 in
    let wide = length-encode d in
    let both = length-append (encode_utf8 d) (encode_utf8_all cs) in
    rw fails (ap (onto_first_piece o d) (cut_chars_first p (o + len_utf8 d) cs c ds h.1 passes)
    ∙ ap (λ (n : ℕ). piece o (encode_utf8 d ++ encode_utf8_all cs) ∷ cut_chars p n ds) (omega arith))

-- ---- texts
-- the characters of a text that begins with those of cs
pub chars_behind : (cs all rest : List ℕ) → encode_utf8_all all ≡ encode_utf8_all cs ++ rest → (ds : List ℕ) × (all ≡ cs ++ ds) × (encode_utf8_all ds ≡ rest)
chars_behind [] all rest e = (all, refl, e)
chars_behind (c ∷ cs) all rest e =
    let first = cons_from_encodes all (encode_utf8_all cs ++ rest) c (e ∙ append_assoc (encode_utf8 c) (encode_utf8_all cs) rest) in
    let more = chars_behind cs first.0 rest first.2 in
    (more.0, first.1 ∙ ap (λ (x : List ℕ). c ∷ x) more.1, more.2)

pub scalars_behind : (cs ds : List ℕ) → all_scalars (cs ++ ds) ≡ true → all_scalars ds ≡ true
scalars_behind [] ds h = h
scalars_behind (c ∷ cs) ds h = scalars_behind cs ds (second_so _ _ h)

-- a text round a character c
pub chars_around : (cs : List ℕ) (c : ℕ) (s back : List ℕ) → IsUtf8 s → s ≡ encode_utf8_all cs ++ (encode_utf8 c ++ back) → chars s ≡ cs ++ c ∷ chars back
chars_around cs c s back u e =
    let front = chars_behind cs (chars s) (encode_utf8 c ++ back) (encodes-chars s u ∙ e) in
    let at = cons_from_encodes front.0 back c front.2 in
    let known = scalars-chars s u in
    let fits : all_scalars at.0 ≡ true = second_so _ _ (scalars_behind cs (c ∷ at.0) (ap all_scalars (sym (front.1 ∙ ap (λ (x : List ℕ). cs ++ x) at.1)) ∙ known)) in
    front.1 ∙ ap (λ (x : List ℕ). cs ++ x) at.1 ∙ ap (λ (x : List ℕ). cs ++ c ∷ x) (sym (chars-encodes at.0 fits) ∙ ap chars at.2)

-- what `split_once` and `find` give: the first match, where there is one
pub cut_at_match : (p : ℕ → Bool) (o : ℕ) (s : List ℕ) (i j : ℕ) → IsUtf8 s → FindsBy p s (Some (i, j)) → j ≤ length s
    → cut p (piece o s) ≡ piece o (take i s) ∷ cut p (piece ((o + length s) - length (drop j s)) (drop j s))
cut_at_match p o s i j u found short =
    let cs = found.0.0 in
    let c = found.1.0 in
    let at = found.1.2 in
    let front : encode_utf8_all cs ≡ take i s = found.0.1 in
    let whole : s ≡ encode_utf8_all cs ++ (encode_utf8 c ++ drop j s) =
    sym (take-append-drop i s) ∙ ap (λ (x : List ℕ). take i s ++ x) at.split ∙ ap (λ (x : List ℕ). x ++ (encode_utf8 c ++ drop j s)) (sym front) in
    let ends = at.ends in
    let taken = length-take i s in
    let dropped = length-drop j s in
    let same = ap (length {A = ℕ}) front in
    let place : o + (length (encode_utf8_all cs) + len_utf8 c) ≡ (o + length s) - length (drop j s) = omega arith in
    ap (cut_chars p o) (chars_around cs c s (drop j s) u whole) ∙ cut_chars_first p o cs c (chars (drop j s)) found.0.2 found.1.1
    ∙ ap (λ (x : List ℕ). piece o x ∷ cut_chars p (o + (length (encode_utf8_all cs) + len_utf8 c)) (chars (drop j s))) front
    ∙ ap (λ (n : ℕ). piece o (take i s) ∷ cut_chars p n (chars (drop j s))) place

pub cut_no_match : (p : ℕ → Bool) (o : ℕ) (s : List ℕ) → IsUtf8 s → FindsBy p s None → cut p (piece o s) ≡ piece o s ∷ []
cut_no_match p o s u found =
    let cs : found.0 ≡ chars s = encodes_same found.0 (chars s) (found.1 ∙ sym (encodes-chars s u)) in
    cut_chars_none p o (chars s) (subst (λ (x : List ℕ). NonePass p x) cs found.2) ∙ ap (λ (x : List ℕ). piece o x ∷ []) (encodes-chars s u)

-- what a search by a closure gives: it finds by each test that answers as all its calls do
abbrev pub FindsByCalls : {F : Type 0} → Mut F (ℕ × Unit {0}) Bool → F → List ℕ → Option (ℕ × ℕ) → Type 0
FindsByCalls g f m o = (k : ℕ → Bool) → AlwaysReturns g (λ a b. b ≡ k a.0) f → FindsBy k m o

abbrev pub RFindsByCalls : {F : Type 0} → Mut F (ℕ × Unit {0}) Bool → F → List ℕ → Option (ℕ × ℕ) → Type 0
RFindsByCalls g f m o = (k : ℕ → Bool) → AlwaysReturns g (λ a b. b ≡ k a.0) f → RFindsBy k m o

-- `split_once` at a closure whose calls all answer by p
pub split_once_some : {F : Type 0} {g : Mut F (ℕ × Unit {0}) Bool} {f : F} (p : ℕ → Bool) (s front back : List ℕ) → SplitsAroundMatch (FindsByCalls g f) s front back → AlwaysReturns g (λ a b. b ≡ p a.0) f → IsUtf8 s
    → (o : ℕ) → cut p (piece o s) ≡ piece o front ∷ cut p (piece ((o + length s) - length back) back)
split_once_some p s front back (i, j, found, ef, eb, _, _, size) always u o =
    let short : j ≤ length s = omega arith in
    cut_at_match p o s i j u (found p always) short
    ∙ ap (λ (x : List ℕ). piece o x ∷ cut p (piece ((o + length s) - length (drop j s)) (drop j s))) (sym ef)
    ∙ ap (λ (x : List ℕ). piece o front ∷ cut p (piece ((o + length s) - length x) x)) (sym eb)

pub split_once_none : {F : Type 0} {g : Mut F (ℕ × Unit {0}) Bool} {f : F} (p : ℕ → Bool) (s : List ℕ) → FindsByCalls g f s None → AlwaysReturns g (λ a b. b ≡ p a.0) f → IsUtf8 s → (o : ℕ) → cut p (piece o s) ≡ piece o s ∷ []
split_once_none p s found always u o = cut_no_match p o s u (found p always)

-- ---- the last element that passes, where only ASCII passes
-- a text without such a character has no such byte
none_any : (p : ℕ → Bool) (bs : List ℕ) → ((k : ℕ) → k < length bs → p (get_or bs k 0) ≡ false) → list_any p bs ≡ false
none_any p [] h = refl
none_any p (b ∷ bs) h = let first : p b ≡ false = h 0 (omega arith) in rw first (none_any p bs (λ k lt. h (suc k) (omega arith)))

some_any : (p : ℕ → Bool) (bs : List ℕ) (k : ℕ) → k < length bs → p (get_or bs k 0) ≡ true → list_any p bs ≡ true
some_any p [] k lt h = absurd (omega arith)
some_any p (b ∷ bs) zero lt h = rw h refl
some_any p (b ∷ bs) (suc k) lt h = let rest = some_any p bs k (omega arith) h in elim (p b) as (λ x. (x || list_any p bs) ≡ true) [ true ↦ refl | false ↦ rest ]

-- what passes is ASCII
abbrev pub OnlyAscii : (ℕ → Bool) → Type 0
OnlyAscii p = (c : ℕ) → 128 ≤ c → p c ≡ false

bytes_fail : (p : ℕ → Bool) → OnlyAscii p → (bs : List ℕ) → NoCharPasses p bs → (k : ℕ) → k < length bs → p (get_or bs k 0) ≡ false
bytes_fail p ascii bs none k lt = ⊎_elim (λ (low : get_or bs k 0 < 128). NoCharPasses-byte p bs k none lt low) (λ (high : 128 ≤ get_or bs k 0). ascii (get_or bs k 0) high) (cases_lt (get_or bs k 0) 128)

pub rsplit_once_none : {F : Type 0} {g : Mut F (ℕ × Unit {0}) Bool} {f : F} (p : ℕ → Bool) (s : List ℕ) → RFindsByCalls g f s None → AlwaysReturns g (λ a b. b ≡ p a.0) f → OnlyAscii p → list_any p s ≡ false
rsplit_once_none p s found always ascii = none_any p s (bytes_fail p ascii s (found p always))

pub rsplit_once_some : {F : Type 0} {g : Mut F (ℕ × Unit {0}) Bool} {f : F} (p : ℕ → Bool) (s front back : List ℕ) → SplitsAroundMatch (RFindsByCalls g f) s front back → AlwaysReturns g (λ a b. b ≡ p a.0) f → OnlyAscii p
    → SplitsAtLast p s front back
rsplit_once_some p s front back (i, j, found, ef, eb, _, _, size) always ascii =
    let is = found p always in
    let c = is.1.0 in
    let passes : p c ≡ true = is.1.1 in
    let at = is.1.2 in
    let low : c < 128 = ⊎_elim (λ (l : c < 128). l) (λ (high : 128 ≤ c). let fails : p c ≡ false = ascii c high in absurd (true≢false (sym passes ∙ fails))) (cases_lt c 128) in
    let ends = at.ends in
    let one = len_utf8_ascii c low in
    let next : j ≡ i + 1 = omega arith in
    let short : j ≤ length s = omega arith in
    let byte : p (get_or s i 0) ≡ true = ap p (at.byte low) ∙ passes in
    let behind : (k : ℕ) → j ≤ k → k < length s → not (p (get_or s k 0)) ≡ true = λ k lo hi.
    let there : get_or (drop j s) (k - j) 0 ≡ get_or s k 0 = get_or-drop j s (k - j) 0 ∙ ap (λ (n : ℕ). get_or s n 0) (omega arith) in
    let inside : k - j < length (drop j s) = simp length-drop (omega arith) in
    ap (λ (x : ℕ). not (p x)) (sym there) ∙ ap not (bytes_fail p ascii (drop j s) is.0 (k - j) inside) in
    let before : 0 < j → not (p (get_or s (j - 1) 0)) ≡ false = λ _. ap (λ (n : ℕ). not (p (get_or s n 0))) (omega arith) ∙ ap not byte in
    let len : suffix_len (λ x. not (p x)) s ≡ length s - j = suffix_len_is (λ x. not (p x)) s j 0 short behind before in
    record {
      has = some_any p s i (omega arith) byte;
      front_is = ef ∙ ap (λ (n : ℕ). take n s) (omega arith);
      back_is = eb ∙ ap (λ (n : ℕ). drop n s) (omega arith);
    }

pub blank_ascii : OnlyAscii is_blank
blank_ascii c high = grind (arith, nat_tests)

pub rsplit_once_is : {F : Type 0} {g : Mut F (ℕ × Unit {0}) Bool} {f : F} (p : ℕ → Bool) (s : List ℕ) (r : Option (Bor (List ℕ) × Bor (List ℕ))) → MatchOption r (RFindsByCalls g f s None) (λ x. SplitsAroundMatch (RFindsByCalls g f) s x.0.now x.1.now)
    → AlwaysReturns g (λ a b. b ≡ p a.0) f → OnlyAscii p → MatchOption r (list_any p s ≡ false) (λ x. SplitsAtLast p s x.0.now x.1.now)
rsplit_once_is p s None h always ascii = rsplit_once_none p s h always ascii
rsplit_once_is p s (Some x) h always ascii = rsplit_once_some p s x.0.now x.1.now h always ascii

pub split_once_shorter : {F : Type 0} {g : Mut F (ℕ × Unit {0}) Bool} {f : F} (p : ℕ → Bool) (s front back : List ℕ) → SplitsAroundMatch (FindsByCalls g f) s front back → AlwaysReturns g (λ a b. b ≡ p a.0) f → length back < length s
split_once_shorter p s front back (i, j, found, ef, eb, _, _, size) always =
    let at = (found p always).1 in
    let ends = at.2.ends in
    let wide = len_utf8_bounds at.0 in
    omega arith

rsplit_once_room : {F : Type 0} {g : Mut F (ℕ × Unit {0}) Bool} {f : F} (p : ℕ → Bool) (s front back : List ℕ) → SplitsAroundMatch (RFindsByCalls g f) s front back → AlwaysReturns g (λ a b. b ≡ p a.0) f → length front + 1 + length back ≤ length s
rsplit_once_room p s front back (i, j, found, ef, eb, _, fore, size) always =
    let at = (found p always).1 in
    let ends = at.2.ends in
    let wide = len_utf8_bounds at.0 in
    omega arith

pub rsplit_once_whole : {F : Type 0} {g : Mut F (ℕ × Unit {0}) Bool} {f : F} (p : ℕ → Bool) (s : List ℕ) (r : Option (Bor (List ℕ) × Bor (List ℕ))) → MatchOption r (RFindsByCalls g f s None) (λ x. SplitsAroundMatch (RFindsByCalls g f) s x.0.now x.1.now)
    → AlwaysReturns g (λ a b. b ≡ p a.0) f → IfSome r (λ x. length x.0.now + 1 + length x.1.now ≤ length s)
rsplit_once_whole p s None h always = tt
rsplit_once_whole p s (Some x) h always = rsplit_once_room p s x.0.now x.1.now h always
