-- A dot that takes all that follows: `.*` or `.+`, outside classes of characters, without the `?` that makes it lazy.
use Rattle.std.specs.Prelude.{ℕ, Bool, false, not, ◌&&◌, ◌||◌, ◌==◌, List, [], ◌∷◌, slice_index, codes}
use Rattle.std.specs.Str.{byte}
use Rattle.lrlex_parser.specs.Text.{begins_with, is_empty}
use Rattle.lrlex_report.specs.PatternClasses.{at_beginning, from_first}
use Rattle.lrlex_report.specs.declared.warnings.pattern_classes.Context.{Context}

abbrev pub is_greedy_dot : Context → List ℕ → Bool
is_greedy_dot x [] = false
is_greedy_dot x (b ∷ []) = false
is_greedy_dot x (b ∷ c ∷ rest) =
    (x.classes == 0) && ((b == byte ".") && (((c == byte "*") || (c == byte "+")) && not (slice_index rest 0 == byte "?")))

-- the pattern has one
abbrev pub has_greedy_dot : (pattern : List ℕ) → Bool
has_greedy_dot pattern = not (is_empty (from_first is_greedy_dot at_beginning pattern))

-- it begins with flags of its own, as `(?s)`, or with a group that has a name
abbrev pub begins_with_flags : List ℕ → Bool
begins_with_flags pattern = begins_with (codes "(?") pattern && not (begins_with (codes "(?:") pattern)
