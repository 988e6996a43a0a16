-- The blanks at the front of a text.
use Rattle.std.proofs.Common.{◌≡◌, ℕ, ◌<◌, ◌≤◌, Bool, true, false, List, [], ◌∷◌, ◌++◌, length, drop, Option, ⊎_elim, refl, sym, ap, ◌∙◌, arith}
use Rattle.std.specs.Prelude.{encode_utf8_all}
use Rattle.std.specs.List.{list_all, prefix_len}
use Rattle.std.specs.Str.{chars, IsUtf8}
use Rattle.std.specs.Str.Pattern.{IsTrimStartMatches, FindsPrefixBy}
use Rattle.std.specs.Fn.{Mut, AlwaysReturns}
use Rattle.std.specs.Cmp.{first_so, second_so}
use Rattle.std.proofs.lemmas.Bool.{cases_lt}
use Rattle.std.proofs.lemmas.Bool.Decides.{nat_tests}
use Rattle.std.proofs.lemmas.Str.{encode_ascii}
use Rattle.std.proofs.lemmas.List.Prefix.{front_rest}
use Rattle.lrlex_base.specs.Classes.{is_blank}
use Rattle.lrlex_parser.proofs.Cuts.{blank_ascii, chars_around}
use Rattle.lrlex_parser.proofs.Trims.{cut_prefixes, first_fails, FirstFails}

pub blank_low : (c : ℕ) → is_blank c ≡ true → c < 128
blank_low c h = grind (arith, nat_tests)

same_bytes : (ws : List ℕ) → list_all is_blank ws ≡ true → encode_utf8_all ws ≡ ws
same_bytes [] h = refl
same_bytes (c ∷ ws) h = ap (λ (x : List ℕ). x ++ encode_utf8_all ws) (encode_ascii c (blank_low c (first_so _ _ h))) ∙ ap (λ (x : List ℕ). c ∷ x) (same_bytes ws (second_so _ _ h))

front_len : (ws r : List ℕ) → list_all is_blank ws ≡ true → prefix_len is_blank r ≡ 0 → prefix_len is_blank (ws ++ r) ≡ length ws
front_len [] r h k = k
front_len (c ∷ ws) r h k =
    let first : is_blank c ≡ true = first_so _ _ h in
    let rest = front_len ws r (second_so _ _ h) k in
    rw first (omega (arith, rest))

no_front : (r : List ℕ) → IsUtf8 r → FirstFails is_blank (chars r) → prefix_len is_blank r ≡ 0
no_front [] u h = refl
no_front (b ∷ bs) u h =
    let fails : is_blank b ≡ false = ⊎_elim (λ (low : b < 128). h b (chars bs) (chars_around [] b (b ∷ bs) bs u (ap (λ (x : List ℕ). x ++ bs) (sym (encode_ascii b low))))) (λ (high : 128 ≤ b). blank_ascii b high) (cases_lt b 128) in
    rw fails refl

pub skip_blanks_is : {F : Type 0} {g : Mut F (ℕ × Unit {0}) Bool} {f : F} (s r : List ℕ) → IsTrimStartMatches (λ m o. (k : ℕ → Bool) → AlwaysReturns g (λ a b. b ≡ k a.0) f → FindsPrefixBy k m o) s r
    → AlwaysReturns g (λ a b. b ≡ is_blank a.0) f → IsUtf8 s → IsUtf8 r → r ≡ drop (prefix_len is_blank s) s
skip_blanks_is {F} {g} {f} s r (cut, full) always us ur =
    let R : List ℕ → Option ℕ → Type 0 = λ m o. (k : ℕ → Bool) → AlwaysReturns g (λ a b. b ≡ k a.0) f → FindsPrefixBy k m o in
    let finds : (m : List ℕ) (o : Option ℕ) → R m o → FindsPrefixBy is_blank m o = λ m o found. found is_blank always in
    let parts = cut_prefixes is_blank R finds s cut.0 r cut.1 in
    let ws = parts.0 in
    let whole : s ≡ ws ++ r = parts.2 ∙ ap (λ (x : List ℕ). x ++ r) (same_bytes ws parts.1) in
    let n : prefix_len is_blank s ≡ length ws = ap (prefix_len is_blank) whole ∙ front_len ws r parts.1 (no_front r ur (first_fails is_blank R finds r ur full)) in
    sym (ap (λ (k : ℕ). drop k s) n ∙ front_rest s ws r whole)
