-- How a pattern's escapes are rewritten, character by character.
use Rattle.std.proofs.Common.{◌≡◌, ℕ, ◌<◌, ◌≤◌, suc, Bool, true, false, eqb, List, [], ◌∷◌, ◌++◌, length, get_or, ⊎_elim, refl, sym, ap, subst, ◌∙◌, arith}
use Rattle.std.specs.Prelude.{◌||◌, ◌≢◌, nat_lt, if◌then◌else◌, codes}
use Rattle.std.specs.Char.{encode_utf8, is_ascii_digit}
use Rattle.std.specs.List.{list_all}
use Rattle.std.proofs.lemmas.Str.{inside_one, length-encode, len_utf8_bounds, encode_ascii}
use Rattle.std.proofs.lemmas.List.{append-nil, append_assoc}
use Rattle.std.proofs.lemmas.Bool.{cases_lt, ltb-true}
use Rattle.std.proofs.lemmas.Bool.Decides.{eqb_tells, nat_tests}
use Rattle.std.specs.Cmp.{first_so, second_so}
use Rattle.lrlex_parser.specs.Escape.{is_backslash, is_one_of, is_meta, begins_escape, escape, unescape}

pub not_eqb : (a b : ℕ) → a ≢ b → eqb a b ≡ false
not_eqb a b h = ⊎_elim (λ (e : (eqb a b ≡ true) × (a ≡ b)). absurd (h e.1)) (λ (e : (eqb a b ≡ false) × (a ≢ b)). e.0) (eqb_tells a b)

-- a byte that is no backslash stays
pub unescape_byte : (posix : Bool) (b : ℕ) (bs : List ℕ) → is_backslash b ≡ false → unescape posix (b ∷ bs) ≡ b ∷ unescape posix bs
unescape_byte posix b [] h = refl
unescape_byte posix b (c ∷ cs) h = rw h refl

unescape_bytes : (posix : Bool) (bs rest : List ℕ) → ((k : ℕ) → k < length bs → get_or bs k 0 ≢ 92) → unescape posix (bs ++ rest) ≡ bs ++ unescape posix rest
unescape_bytes posix [] rest h = refl
unescape_bytes posix (b ∷ bs) rest h =
    let other : is_backslash b ≡ false = not_eqb b 92 (h 0 (omega arith)) in
    unescape_byte posix b (bs ++ rest) other ∙ ap (λ (x : List ℕ). b ∷ x) (unescape_bytes posix bs rest (λ k lt. h (suc k) (omega arith)))

-- and so does a character
pub unescape_char : (posix : Bool) (c : ℕ) (rest : List ℕ) → c ≢ 92 → unescape posix (encode_utf8 c ++ rest) ≡ encode_utf8 c ++ unescape posix rest
unescape_char posix c rest h = unescape_bytes posix (encode_utf8 c) rest (λ k lt e. h (inside_one c [] (encode_utf8 c) k (sym (append-nil (encode_utf8 c))) lt (omega arith) ∙ e))

-- ---- escapes
one_of_ascii : (set : List ℕ) (x : ℕ) → list_all (λ b. nat_lt b 128) set ≡ true → 128 ≤ x → is_one_of set x ≡ false
one_of_ascii [] x h high = refl
one_of_ascii (b ∷ set) x h high =
    let low : b < 128 = ltb-true b 128 (first_so _ _ h) in
    rw (not_eqb b x (λ e. absurd (omega arith))) (one_of_ascii set x (second_so _ _ h) high)

-- an escaped character beyond ASCII loses its backslash
escape_high : (posix : Bool) (x : ℕ) (rest : List ℕ) → 128 ≤ x → (escape posix x rest ≡ x ∷ []) × ((is_meta x || begins_escape x rest) ≡ false)
escape_high posix x rest high =
    let meta = one_of_ascii (codes "\\.+*?()|[]{}^$#&-~") x refl high in
    let letter = one_of_ascii (codes "afnrtvpPdDsSwWAz") x refl high in
    let hex = one_of_ascii (codes "xuU") x refl high in
    let digit : is_ascii_digit x ≡ false = grind (arith, nat_tests) in
    let none : (is_meta x || begins_escape x rest) ≡ false = rw (meta, digit, letter, hex) refl in
    (rw (not_eqb x 98 (λ e. absurd (omega arith)), none) refl, none)

escape_is : (posix : Bool) (d : ℕ) (rest : List ℕ) → d ≢ 98 → escape posix d rest ≡ (if is_meta d || begins_escape d rest then 92 ∷ d ∷ [] else d ∷ [])
escape_is posix d rest h = rw (not_eqb d 98 h) refl

kept : (k : Bool) (d : ℕ) (more : List ℕ) → (if k then 92 ∷ d ∷ [] else d ∷ []) ++ more ≡ (if k then 92 ∷ [] else []) ++ (d ∷ more)
kept true d more = refl
kept false d more = refl

-- the first byte of a character beyond ASCII, and the others, of which none is a backslash
high_bytes : (d : ℕ) (bs : List ℕ) → encode_utf8 d ≡ bs → 128 ≤ d → (x : ℕ) × (xs : List ℕ) × (bs ≡ x ∷ xs) × (128 ≤ x) × ((k : ℕ) → k < length xs → get_or xs k 0 ≢ 92)
high_bytes d [] e high = let wide = len_utf8_bounds d in let same = length-encode d in let none = ap (length {A = ℕ}) e in absurd (omega arith)
high_bytes d (x ∷ xs) e high =
    let at : (k : ℕ) → k < length (x ∷ xs) → get_or (x ∷ xs) k 0 < 128 → d ≡ get_or (x ∷ xs) k 0 = λ k lt low. inside_one d [] (x ∷ xs) k (sym (append-nil (encode_utf8 d) ∙ e)) (subst (λ (y : List ℕ). k < length y) (sym e) lt) low in
    let first : 128 ≤ x = ⊎_elim (λ (low : x < 128). let same : d ≡ x = at 0 (omega arith) low in absurd (omega arith)) (λ (h : 128 ≤ x). h) (cases_lt x 128) in
    (x, xs, refl, first, λ k lt is. let same : d ≡ get_or xs k 0 = at (suc k) (omega arith) (omega arith) in absurd (omega arith))

pub unescape_escape : (posix : Bool) (d : ℕ) (rest : List ℕ) → d ≢ 98 → unescape posix (92 ∷ (encode_utf8 d ++ rest)) ≡ (if is_meta d || begins_escape d rest then 92 ∷ [] else []) ++ (encode_utf8 d ++ unescape posix rest)
unescape_escape posix d rest h = ⊎_elim
    (λ (low : d < 128).
    let one = encode_ascii d low in
    ap (λ (x : List ℕ). unescape posix (92 ∷ (x ++ rest))) one ∙ ap (λ (x : List ℕ). x ++ unescape posix rest) (escape_is posix d rest h) ∙ kept (is_meta d || begins_escape d rest) d (unescape posix rest)
    ∙ ap (λ (x : List ℕ). (if is_meta d || begins_escape d rest then 92 ∷ [] else []) ++ (x ++ unescape posix rest)) (sym one))
    (λ (high : 128 ≤ d).
    let parts = high_bytes d (encode_utf8 d) refl high in
    let x = parts.0 in
    let xs = parts.1 in
    ap (λ (y : List ℕ). unescape posix (92 ∷ (y ++ rest))) parts.2 ∙ ap (λ (y : List ℕ). y ++ unescape posix (xs ++ rest)) (escape_high posix x (xs ++ rest) parts.3).0
    ∙ ap (λ (y : List ℕ). x ∷ y) (unescape_bytes posix xs rest parts.4) ∙ ap (λ (y : List ℕ). y ++ unescape posix rest) (sym parts.2)
    ∙ ap (λ (b : Bool). (if b then 92 ∷ [] else []) ++ (encode_utf8 d ++ unescape posix rest)) (sym (escape_high posix d rest high).1))
    (cases_lt d 128)

empty : (s : List ℕ) → length s ≡ 0 → s ≡ []
empty [] h = refl
empty (x ∷ s) h = absurd (omega arith)

-- ---- the steps of a loop over the characters: p is what the whole pattern becomes, out what is written, and s what is left
module _ (posix : Bool) (p out s : List ℕ) (so_far : out ++ unescape posix s ≡ p) where
  pub step_char : (c : ℕ) (t new : List ℕ) → c ≢ 92 → s ≡ encode_utf8 c ++ t → new ≡ out ++ encode_utf8 c → new ++ unescape posix t ≡ p
  step_char c t new other is wrote =
      ap (λ (x : List ℕ). x ++ unescape posix t) wrote ∙ append_assoc out (encode_utf8 c) (unescape posix t)
      ∙ ap (λ (x : List ℕ). out ++ x) (sym (ap (unescape posix) is ∙ unescape_char posix c t other)) ∙ so_far

  -- a backslash stands at the end
  pub step_end : (t new : List ℕ) → s ≡ encode_utf8 92 ++ t → length t ≡ 0 → new ≡ out ++ encode_utf8 92 → new ++ unescape posix t ≡ p
  step_end [] new is none wrote = ap (λ (x : List ℕ). x ++ []) wrote ∙ append-nil (out ++ encode_utf8 92) ∙ ap (λ (x : List ℕ). out ++ x) (encode_ascii 92 (omega arith) ∙ sym (ap (unescape posix) (is ∙ append-nil (encode_utf8 92) ∙ encode_ascii 92 (omega arith)))) ∙ so_far
  step_end (x ∷ t) new is none wrote = absurd (omega arith)

  -- `\b`
  pub step_word_boundary : (t u new : List ℕ) → s ≡ encode_utf8 92 ++ t → t ≡ encode_utf8 98 ++ u → new ≡ out ++ (if posix then codes "\\x08" else codes "\\b") → new ++ unescape posix u ≡ p
  step_word_boundary t u new is next wrote =
      let whole : s ≡ 92 ∷ 98 ∷ u = is ∙ ap (λ (x : List ℕ). encode_utf8 92 ++ x) next ∙ ap (λ (x : List ℕ). x ++ (encode_utf8 98 ++ u)) (encode_ascii 92 (omega arith)) ∙ ap (λ (x : List ℕ). 92 ∷ (x ++ u)) (encode_ascii 98 (omega arith)) in
      ap (λ (x : List ℕ). x ++ unescape posix u) wrote ∙ append_assoc out _ (unescape posix u) ∙ ap (λ (x : List ℕ). out ++ x) (sym (ap (unescape posix) whole)) ∙ so_far

  -- another escape
  pub step_escape : (d : ℕ) (t u new : List ℕ) → d ≢ 98 → s ≡ encode_utf8 92 ++ t → t ≡ encode_utf8 d ++ u → new ≡ (out ++ (if is_meta d || begins_escape d u then 92 ∷ [] else [])) ++ encode_utf8 d → new ++ unescape posix u ≡ p
  step_escape d t u new other is next wrote =
      let whole : s ≡ 92 ∷ (encode_utf8 d ++ u) = is ∙ ap (λ (x : List ℕ). encode_utf8 92 ++ x) next ∙ ap (λ (x : List ℕ). x ++ (encode_utf8 d ++ u)) (encode_ascii 92 (omega arith)) in
      let keeps = (if is_meta d || begins_escape d u then 92 ∷ [] else []) in
      ap (λ (x : List ℕ). x ++ unescape posix u) wrote ∙ append_assoc (out ++ keeps) (encode_utf8 d) (unescape posix u) ∙ append_assoc out keeps (encode_utf8 d ++ unescape posix u)
      ∙ ap (λ (x : List ℕ). out ++ x) (sym (ap (unescape posix) whole ∙ unescape_escape posix d u other)) ∙ so_far

  -- nothing is left
  pub step_done : length s ≡ 0 → out ≡ p
  step_done none = sym (append-nil out) ∙ ap (λ (x : List ℕ). out ++ unescape posix x) (sym (empty s none)) ∙ so_far

-- what is written where the backslash stays, and where it goes
pub kept_yes : (k : Bool) (old new : List ℕ) → k ≡ true → new ≡ old ++ encode_utf8 92 → new ≡ old ++ (if k then 92 ∷ [] else [])
kept_yes k old new h wrote = wrote ∙ ap (λ (x : List ℕ). old ++ x) (encode_ascii 92 (omega arith)) ∙ ap (λ (b : Bool). old ++ (if b then 92 ∷ [] else [])) (sym h)

pub kept_no : (k : Bool) (old new : List ℕ) → k ≡ false → new ≡ old → new ≡ old ++ (if k then 92 ∷ [] else [])
kept_no k old new h wrote = wrote ∙ sym (append-nil old) ∙ ap (λ (b : Bool). old ++ (if b then 92 ∷ [] else [])) (sym h)
