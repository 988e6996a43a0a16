-- The laws of paths and of URIs that name them.
use Rattle.std.proofs.Common.{◌≡◌, ◌≢◌, ℕ, ◌+◌, ◌-◌, ◌<◌, true, false, List, [], ◌∷◌, ◌++◌, length, get_or, take, Some, None, All, IsTrue, codes, sym, refl, ap, ◌∙◌, subst, arith}
use Rattle.std.specs.Prelude.{Option, MatchOption, not, unwrap_or, if◌then◌else◌}
use Rattle.std.specs.Option.{option_map_or}
use Rattle.std.specs.List.{before_last, suffix_len}
use Rattle.std.proofs.lemmas.Bool.{agree_below_at, true≢false}
use Rattle.std.proofs.lemmas.Bool.Decides.{nat_tests}
use Rattle.std.proofs.lemmas.List.Sums.{suffix_len_is}
use Rattle.std.proofs.lemmas.List.Elements.{All-head, All-tail}
use Rattle.percent_encoding.specs.AsciiSet.{should_percent_encode}
use Rattle.percent_encoding.specs.Percent.{percent_decode, percent_encode, percent_encode_byte, encode_byte}
use Rattle.percent_encoding.proofs.PercentLemmas.{IsByte, percent_decode_not_percent, round_trip}
use Rattle.lrlex_lsp.specs.declared.uris.TheConstants.{ESCAPED}
use Rattle.lrlex_lsp.specs.Uris.{escaped, is_absolute, is_kept, is_slash, named, path_of, plain}

-- a path's folder ends at its last `/`, or is empty
pub folder_to : (path : List ℕ) (end : Option ℕ)
    → MatchOption end ((k : ℕ) → k < length path → get_or path k 0 ≢ 47)
    (λ i. (i < length path) × (get_or path i 0 ≡ 47) × ((k : ℕ) → i < k → k < length path → get_or path k 0 ≢ 47))
    → take (unwrap_or end 0) path ≡ before_last is_slash path
folder_to path None none =
    let all : suffix_len (λ b. not (is_slash b)) path ≡ length path - 0 =
    suffix_len_is (λ b. not (is_slash b)) path 0 0 (omega arith) (λ k _ lt. let ne = none k lt in grind (arith, nat_tests)) (λ lt. absurd (omega arith)) in
    let at : 0 ≡ length path - suffix_len (λ b. not (is_slash b)) path - 1 = omega (arith, all) in
    ap (λ n. take n path) at
folder_to path (Some i) found =
    let rest : suffix_len (λ b. not (is_slash b)) path ≡ length path - (i + 1) =
    suffix_len_is (λ b. not (is_slash b)) path (i + 1) 0 (omega (arith, found.0)) (λ k lo lt. let ne = found.2 k (omega (arith, lo)) lt in grind (arith, nat_tests)) (λ _. let same : i + 1 - 1 ≡ i = omega arith in rw (same, found.1) refl) in
    let at : i ≡ length path - suffix_len (λ b. not (is_slash b)) path - 1 = omega (arith, rest, found.0) in
    ap (λ n. take n path) at

-- the set has the bytes that are not kept
escapes_others : (byte : ℕ) → byte < 256 → should_percent_encode ESCAPED byte ≡ not (is_kept byte)
unfolding should_percent_encode
escapes_others byte = agree_below_at (should_percent_encode ESCAPED) (λ b. not (is_kept b)) 256 byte refl

escape_is : (byte : ℕ) → byte < 256 → encode_byte ESCAPED byte ≡ (if is_kept byte then byte ∷ [] else percent_encode_byte byte)
escape_is byte small = rw (escapes_others byte small) (elim (is_kept byte) as (λ kept. (if not kept then percent_encode_byte byte else byte ∷ []) ≡ (if kept then byte ∷ [] else percent_encode_byte byte)) [ true ↦ refl | false ↦ refl ])

pub escaped_is : (path : List ℕ) → All IsByte path → percent_encode ESCAPED path ≡ escaped path
unfolding percent_encode
escaped_is [] small = refl
escaped_is (b ∷ bs) small =
    let first = escape_is b (All-head IsByte b bs small) in
    let rest = escaped_is bs (All-tail IsByte b bs small) in
    ap (λ x. x ++ percent_encode ESCAPED bs) first ∙ ap (λ x. (if is_kept b then b ∷ [] else percent_encode_byte b) ++ x) rest

kept_front : (bytes : List ℕ) → percent_decode (codes "file://" ++ bytes) ≡ codes "file://" ++ percent_decode bytes
kept_front bytes =
    let step : (b : ℕ) → b ≢ 37 → (bs rest : List ℕ) → percent_decode bs ≡ rest → percent_decode (b ∷ bs) ≡ b ∷ rest =
    λ b ne bs rest e. percent_decode_not_percent b bs ne ∙ ap (λ x. b ∷ x) e in
    step 102 (omega arith) _ _ (step 105 (omega arith) _ _ (step 108 (omega arith) _ _ (step 101 (omega arith) _ _ (step 58 (omega arith) _ _ (step 47 (omega arith) _ _ (step 47 (omega arith) _ _ refl))))))

absolute_first : (byte : ℕ) (bytes : List ℕ) → IsTrue (is_absolute (byte ∷ bytes)) → byte ≡ 47
absolute_first byte bytes absolute = grind (arith, nat_tests)

path_named : (path : List ℕ) → IsTrue (is_absolute path) → path_of (codes "file://" ++ path) ≡ Some path
path_named [] absolute = absurd (true≢false (sym absolute))
path_named (b ∷ bs) absolute = subst (λ c. path_of (codes "file://" ++ (c ∷ bs)) ≡ Some (c ∷ bs)) (sym (absolute_first b bs absolute)) refl

-- the URI of an absolute path names it
pub named_file : (path : List ℕ) → All IsByte path → IsTrue (is_absolute path) → named (codes "file://" ++ escaped path) ≡ codes "file:" ++ plain path
named_file path small absolute =
    let read : percent_decode (codes "file://" ++ escaped path) ≡ codes "file://" ++ path =
    kept_front (escaped path) ∙ ap (λ x. codes "file://" ++ x) (ap percent_decode (sym (escaped_is path small)) ∙ round_trip ESCAPED path refl small) in
    let name : List ℕ → List ℕ = λ it. codes "file:" ++ plain it in
    ap (λ bytes. option_map_or name (path_of bytes) bytes) read ∙ ap (λ it. option_map_or name it (codes "file://" ++ path)) (path_named path absolute)
