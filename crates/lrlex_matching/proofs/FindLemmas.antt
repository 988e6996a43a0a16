-- What a search by `regex` finds: the end of a match that begins at the text's beginning, and 0 where there is none.
use Rattle.std.proofs.Common.{◌≡◌, ◌≢◌, ne_eqb, ℕ, true, false, ◌==◌, List, Option, Some, option_map, refl, sym, ap, ◌∙◌, eq-eqb, ◌&&◌, IsCharBoundary}
use Rattle.std.proofs.lemmas.Bool.{cond-true, cond-false}
use Rattle.regex.specs.Patterns.{Re, find_str, span}
use Rattle.regex_hir.specs.Text.{is_boundary}
use Rattle.regex.proofs.Utf8Lemmas.{test_of_IsCharBoundary}
use Rattle.lrlex_matching.specs.Matching.{end_from_zero, match_length}

end_at_zero : (text : List ℕ) (s e : ℕ) → s ≡ 0 → IsCharBoundary text e → end_from_zero text (Some (s, e)) ≡ e
end_at_zero text s e at cut =
    let first : (s == 0) ≡ true = eq-eqb s 0 at in
    cond-true (s == 0 && is_boundary text e) e 0 (rw (first, test_of_IsCharBoundary text e cut) refl)

pub match_length_found : (re : Re) (text : List ℕ) (s e : ℕ) → Some (s, e) ≡ option_map span (find_str re text 0) → s ≡ 0 → IsCharBoundary text e →
    e ≡ match_length re text
unfolding match_length
match_length_found re text s e found at cut = sym (end_at_zero text s e at cut) ∙ ap (end_from_zero text) found

pub match_length_other : (re : Re) (text : List ℕ) (o : Option (ℕ × ℕ)) → o ≡ option_map span (find_str re text 0) → end_from_zero text o ≡ 0 →
    0 ≡ match_length re text
unfolding match_length
match_length_other re text o found none = sym none ∙ ap (end_from_zero text) found

pub end_elsewhere : (text : List ℕ) (s e : ℕ) → s ≢ 0 → end_from_zero text (Some (s, e)) ≡ 0
end_elsewhere text s e h =
    let first : (s == 0) ≡ false = ne_eqb s 0 h in
    cond-false (s == 0 && is_boundary text e) e 0 (rw first refl)
