-- How many code units of UTF-16 a text gives.
use Rattle.std.proofs.Common.{◌≡◌, inl, inr, ℕ, List, [], ◌∷◌, ◌++◌, length, map, sym, ◌∙◌, ap, ap₂, subst, Some, None}
use Rattle.std.specs.List.{concat}
use Rattle.std.specs.Str.{chars, IsUtf8}
use Rattle.std.specs.Char.Escape.{encode_utf16}
use Rattle.std.specs.declared.str.EncodeUtf16.{EncodeUtf16}
use Rattle.std.specs.Str.Iter.{encode_utf16_rest, encode_utf16_pending, encode_utf16_steps}
use Rattle.std.proofs.lemmas.List.{nil_from_length}
use Rattle.std.proofs.lemmas.Str.{chars_past_char, chars-nil, IsUtf8-past_char}
use Rattle.std.proofs.lemmas.Iterator.{YieldsList}
use Rattle.std.proofs.lemmas.Iterator.Splits.{YieldsList-from_shown_while}

abbrev pub units_left : EncodeUtf16 → List ℕ
units_left s = encode_utf16_pending s ++ concat (map encode_utf16 (chars (encode_utf16_rest s)))

none_left : (s t : EncodeUtf16) → IsUtf8 (encode_utf16_rest s) → encode_utf16_steps s None t → length (units_left s) ≡ 0
none_left s t u h =
    let rest : encode_utf16_rest s ≡ [] = nil_from_length (encode_utf16_rest s) h.1 in
    ap₂ (λ p r. length (p ++ concat (map encode_utf16 (chars r)))) h.0 rest ∙ ap (λ cs. length (concat (map encode_utf16 cs))) chars-nil

one_less : (s : EncodeUtf16) (x : ℕ) (t : EncodeUtf16) → IsUtf8 (encode_utf16_rest s) → encode_utf16_steps s (Some x) t → IsUtf8 (encode_utf16_rest t) × (units_left s ≡ x ∷ units_left t)
one_less s x t u h =
    let rest = λ (r : List ℕ). concat (map encode_utf16 (chars r)) in
    elim h [
      | inl l ↦ (subst IsUtf8 (sym l.2) u, ap₂ (λ p r. p ++ rest r) l.0 (sym l.2) ∙ ap (λ p. x ∷ (p ++ rest (encode_utf16_rest t))) (sym l.1))
      | inr r ↦
          let c = r.1.0 in (
            IsUtf8-past_char (encode_utf16_rest s) (encode_utf16_rest t) c u r.1.1,
            ap₂ (λ p cs. p ++ concat (map encode_utf16 cs)) r.0 (chars_past_char (encode_utf16_rest s) (encode_utf16_rest t) c u r.1.1)
                ∙ ap (λ us. us ++ rest (encode_utf16_rest t)) r.1.2,
          )
    ]

pub units_given : (s : EncodeUtf16) → IsUtf8 (encode_utf16_rest s) → YieldsList encode_utf16_steps (λ x. x) s (units_left s)
units_given s u = YieldsList-from_shown_while encode_utf16_steps (λ x. x) units_left (λ r. IsUtf8 (encode_utf16_rest r)) none_left one_less s u
