-- What a caller needs of how much a pattern matches: bytes of the text, whole characters, and as much as a pattern that gives the same matches.
use Rattle.std.proofs.Common.{◌≡◌, ℕ, ◌<◌, ◌≤◌, ◌==◌, ◌&&◌, Bool, true, false, cond, List, length, get_or, Option, Some, None, option_map, IsCharBoundary, refl, sym, ap, subst, arith}
use Rattle.regex_hir.specs.Text.{is_boundary}
use Rattle.regex_hir.specs.Find.{Match}
use Rattle.regex_hir.proofs.MatchesLemmas.{Matches-IsSpan}
use Rattle.regex.specs.Patterns.{Re, SameCaptures, find_str, span}
use Rattle.regex.proofs.ForCallers.{find_str_sound, span_alike}
use Rattle.regex.proofs.SearchLemmas.{leftmost_attempt}
use Rattle.regex.proofs.Utf8Lemmas.{IsCharBoundary-of_test}
use Rattle.lrlex_matching.specs.Matching.{end_from_zero, match_length}

within_cases : (b : Bool) (n len : ℕ) → n ≤ len → cond b n 0 ≤ len
within_cases true n len h = h
within_cases false n len h = omega arith

length_at_most : (re : Re) (text : List ℕ) (o : Option Match) → find_str re text 0 ≡ o → end_from_zero text (option_map span o) ≤ length text
length_at_most re text None e = omega arith
length_at_most re text (Some m) e =
    within_cases _ m.trace.end (length text)
    (omega (arith, Matches-IsSpan text re m.start m.trace.end (find_str_sound re text 0 m e).1, (leftmost_attempt re text true 0 m e).1))

-- a pattern matches bytes of the text
pub length_within : (re : Re) (text : List ℕ) → match_length re text ≤ length text
unfolding match_length
length_within re text = length_at_most re text _ refl

cut_by : (text : List ℕ) (n : ℕ) (a b : Bool) → is_boundary text n ≡ b → 0 < cond (a && b) n 0 → is_boundary text (cond (a && b) n 0) ≡ true
cut_by text n true true e h = e
cut_by text n true false e h = absurd (omega arith)
cut_by text n false b e h = absurd (omega arith)

cut_of : (text : List ℕ) (o : Option (ℕ × ℕ)) → 0 < end_from_zero text o → is_boundary text (end_from_zero text o) ≡ true
cut_of text None h = absurd (omega arith)
cut_of text (Some s) h = cut_by text s.1 (s.0 == 0) (is_boundary text s.1) refl h

-- whole characters
pub length_cuts : (re : Re) (text : List ℕ) (n : ℕ) → match_length re text ≡ n → 0 < n → n ≤ length text → IsCharBoundary text n
unfolding match_length
length_cuts re text n is some within =
    IsCharBoundary-of_test text n within
    (subst (λ i. is_boundary text i ≡ true) is (cut_of text (option_map span (find_str re text 0)) (subst (λ i. 0 < i) (sym is) some)))

-- and as many bytes as a pattern that gives the same matches and captures
pub length_alike : (a b : Re) → SameCaptures a b → (text : List ℕ) → ((k : ℕ) → get_or text k 0 < 256) → match_length a text ≡ match_length b text
unfolding match_length
length_alike a b same text bytes = ap (end_from_zero text) (span_alike same text bytes true 0)
