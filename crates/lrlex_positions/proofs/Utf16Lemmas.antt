-- How many code units of UTF-16 a text takes.
use Rattle.std.proofs.Common.{◌≡◌, ℕ, ◌+◌, ◌≤◌, true, cond, List, [], ◌∷◌, length, nat_le, nat_lt, IsUtf8, map, refl, ap, arith, length-append}
use Rattle.std.specs.List.{concat}
use Rattle.std.specs.Char.Escape.{encode_utf16}
use Rattle.std.specs.Char.{len_utf8}
use Rattle.std.specs.Str.{chars}
use Rattle.std.proofs.Math.Utf8.{encode, encodes}
use Rattle.std.proofs.lemmas.Bool.{cond_both, leb-false, leb-true, ltb-false, ltb-true}
use Rattle.std.proofs.lemmas.List.Sums.{sum_by-cons}
use Rattle.std.proofs.lemmas.Str.{encodes-chars, length-encode, len_utf8_bounds}
use Rattle.lrlex_positions.specs.Columns.{is_wide, units}

-- a character beyond U+FFFF takes more than one byte
wide_bytes : (c : ℕ) → is_wide c ≡ true → 2 ≤ len_utf8 c
wide_bytes c wide =
    let three : ℕ = cond (nat_lt c 0x1_0000) 3 4 in
    let two : ℕ = cond (nat_lt c 0x800) 2 three in
    cond_both (nat_lt c 0x80) 1 two (λ n. 2 ≤ n) (λ low. absurd (omega (arith, ltb-true c 0x80 low, leb-true 0x1_0000 c wide)))
    (λ _. cond_both (nat_lt c 0x800) 2 three (λ n. 2 ≤ n) (λ _. omega arith) (λ _. cond_both (nat_lt c 0x1_0000) 3 4 (λ n. 2 ≤ n) (λ _. omega arith) (λ _. omega arith)))

one_unit : (c : ℕ) → 1 + cond (is_wide c) 1 0 ≤ len_utf8 c
one_unit c = cond_both (is_wide c) 1 0 (λ n. 1 + n ≤ len_utf8 c) (λ wide. omega (arith, wide_bytes c wide)) (λ _. omega (arith, (len_utf8_bounds c).0))

units_encoded : (cs : List ℕ) → units cs ≤ length (encodes cs)
units_encoded [] = omega arith
units_encoded (c ∷ cs) =
    omega (arith, units_encoded cs, one_unit c, length-encode c, length-append (encode c) (encodes cs), sum_by-cons (λ x. cond (is_wide x) 1 0) c cs)

-- no more code units than bytes
pub units_fit : (text : List ℕ) → IsUtf8 text → units (chars text) ≤ length text
units_fit text utf8 = omega (arith, units_encoded (chars text), ap length (encodes-chars text utf8))

-- a character has one code unit, or two beyond U+FFFF
encoded_one : (c : ℕ) → length (encode_utf16 c) ≡ 1 + cond (is_wide c) 1 0
encoded_one c =
    cond_both (nat_lt c 0x1_0000) _ _ (λ l. length l ≡ 1 + cond (is_wide c) 1 0)
    (λ low. cond_both (nat_le 0x1_0000 c) 1 0 (λ n. 1 ≡ 1 + n) (λ high. absurd (omega (arith, ltb-true c 0x1_0000 low, leb-true 0x1_0000 c high))) (λ _. refl))
    (λ high. cond_both (nat_le 0x1_0000 c) 1 0 (λ n. 2 ≡ 1 + n) (λ _. refl) (λ low. absurd (omega (arith, ltb-false c 0x1_0000 high, leb-false 0x1_0000 c low))))

-- so the code units are those of the encoding
pub units_encode : (cs : List ℕ) → units cs ≡ length (concat (map encode_utf16 cs))
units_encode [] = refl
units_encode (c ∷ cs) =
    omega (arith, units_encode cs, encoded_one c, length-append (encode_utf16 c) (concat (map encode_utf16 cs)), sum_by-cons (λ x. cond (is_wide x) 1 0) c cs)
