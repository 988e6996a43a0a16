-- Rewriting the escapes of a pattern a second time changes nothing.
use Rattle.std.proofs.Common.{◌≡◌, ℕ, Bool, true, false, eqb, List, [], ◌∷◌, ◌++◌, refl, ap, ◌∙◌}
use Rattle.std.specs.Prelude.{◌&&◌, ◌||◌, if◌then◌else◌, codes, slice_index}
use Rattle.std.specs.Char.{is_ascii_digit, is_ascii_hexdigit}
use Rattle.std.proofs.lemmas.Bool.{eqb-true}
use Rattle.lrlex_parser.specs.Escape.{is_backslash, is_one_of, is_meta, begins_escape, escape, unescape}
use Rattle.lrlex_parser.proofs.EscapeLemmas.{unescape_byte}

-- a hexadecimal digit at the front stays there
hex_first : (posix : Bool) (b c : ℕ) (rest : List ℕ) (v : Bool) → is_backslash b ≡ v → is_ascii_hexdigit b ≡ true → is_ascii_hexdigit (slice_index (if v then escape posix c rest ++ unescape posix rest else b ∷ unescape posix (c ∷ rest)) 0) ≡ true
hex_first posix b c rest false e h = h
hex_first posix b c rest true e h =
    let same : is_ascii_hexdigit b ≡ false = ap is_ascii_hexdigit (eqb-true b 92 e) in
    cc

hex_stays : (posix : Bool) (bs : List ℕ) → is_ascii_hexdigit (slice_index bs 0) ≡ true → is_ascii_hexdigit (slice_index (unescape posix bs) 0) ≡ true
hex_stays posix [] h = h
hex_stays posix (b ∷ []) h = h
hex_stays posix (b ∷ c ∷ rest) h = hex_first posix b c rest (is_backslash b) refl h

more_so : (a b d e h k : Bool) → (h ≡ true → k ≡ true) → (a || (b || d || (e && h))) ≡ true → (a || (b || d || (e && k))) ≡ true
more_so true b d e h k f p = refl
more_so false true d e h k f p = refl
more_so false false true e h k f p = refl
more_so false false false false h k f p = p
more_so false false false true h k f p = f p

-- what was kept with its backslash is kept again
kept_again : (posix : Bool) (c : ℕ) (rest : List ℕ) → (is_meta c || begins_escape c rest) ≡ true → (is_meta c || begins_escape c (unescape posix rest)) ≡ true
kept_again posix c rest h =
    more_so (is_meta c) (is_ascii_digit c) (is_one_of (codes "afnrtvpPdDsSwWAz") c) (is_one_of (codes "xuU") c) (is_ascii_hexdigit (slice_index rest 0)) (is_ascii_hexdigit (slice_index (unescape posix rest) 0)) (hex_stays posix rest) h

or_left : (a b : Bool) → (a || b) ≡ false → a ≡ false
or_left true b h = cc
or_left false b h = refl

plain_case : (c : ℕ) (v : Bool) → is_backslash c ≡ v → is_meta c ≡ false → v ≡ false
plain_case c false e h = refl
plain_case c true e h =
    let meta : is_meta c ≡ true = ap is_meta (eqb-true c 92 e) in
    cc

again_other : (posix : Bool) (c : ℕ) (rest : List ℕ) (k : Bool) → eqb c 98 ≡ false → (is_meta c || begins_escape c rest) ≡ k → unescape posix (unescape posix rest) ≡ unescape posix rest
    → unescape posix ((if k then 92 ∷ c ∷ [] else c ∷ []) ++ unescape posix rest) ≡ (if k then 92 ∷ c ∷ [] else c ∷ []) ++ unescape posix rest
again_other posix c rest true other e more =
    let u = unescape posix rest in
    let own : escape posix c u ≡ 92 ∷ c ∷ [] = rw (other, kept_again posix c rest e) refl in
    ap (λ (x : List ℕ). x ++ unescape posix u) own ∙ ap (λ (x : List ℕ). 92 ∷ c ∷ x) more
again_other posix c rest false other e more =
    let plain : is_backslash c ≡ false = plain_case c (is_backslash c) refl (or_left (is_meta c) (begins_escape c rest) e) in
    unescape_byte posix c (unescape posix rest) plain ∙ ap (λ (x : List ℕ). c ∷ x) more

again_b : (posix : Bool) (rest : List ℕ) → unescape posix (unescape posix rest) ≡ unescape posix rest
    → unescape posix ((if posix then codes "\\x08" else codes "\\b") ++ unescape posix rest) ≡ (if posix then codes "\\x08" else codes "\\b") ++ unescape posix rest
again_b true rest more = ap (λ (x : List ℕ). 92 ∷ 120 ∷ 48 ∷ x) (unescape_byte true 56 (unescape true rest) refl ∙ ap (λ (x : List ℕ). 56 ∷ x) more)
again_b false rest more = ap (λ (x : List ℕ). 92 ∷ 98 ∷ x) more

again_escape : (posix : Bool) (c : ℕ) (rest : List ℕ) (v : Bool) → eqb c 98 ≡ v → unescape posix (unescape posix rest) ≡ unescape posix rest
    → unescape posix (escape posix c rest ++ unescape posix rest) ≡ escape posix c rest ++ unescape posix rest
again_escape posix c rest true e more = rw e (again_b posix rest more)
again_escape posix c rest false e more = rw e (again_other posix c rest (is_meta c || begins_escape c rest) e refl more)

again_case : (posix : Bool) (b c : ℕ) (rest : List ℕ) (v : Bool) → is_backslash b ≡ v → unescape posix (unescape posix rest) ≡ unescape posix rest → unescape posix (unescape posix (c ∷ rest)) ≡ unescape posix (c ∷ rest)
    → unescape posix (if v then escape posix c rest ++ unescape posix rest else b ∷ unescape posix (c ∷ rest)) ≡ (if v then escape posix c rest ++ unescape posix rest else b ∷ unescape posix (c ∷ rest))
again_case posix b c rest true e h k = again_escape posix c rest (eqb c 98) refl h
again_case posix b c rest false e h k = unescape_byte posix b (unescape posix (c ∷ rest)) e ∙ ap (λ (x : List ℕ). b ∷ x) k

pub unescape_again : (posix : Bool) (bs : List ℕ) → unescape posix (unescape posix bs) ≡ unescape posix bs
unescape_again posix [] = refl
unescape_again posix (b ∷ []) = refl
unescape_again posix (b ∷ c ∷ rest) = again_case posix b c rest (is_backslash b) refl (unescape_again posix rest) (unescape_again posix (c ∷ rest))
