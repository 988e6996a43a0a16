-- Operators within a class of characters that are hardly meant: `[` begins another class, and `--`, `&&` and `~~` are operations on
-- sets. An operation with a class on its right side is meant, as in `[a-z&&[^b]]`.
use Rattle.std.specs.Prelude.{ℕ, Bool, true, false, not, ◌&&◌, ◌||◌, ◌==◌, List, [], ◌∷◌, slice_index}
use Rattle.std.specs.Str.{byte}
use Rattle.lrlex_parser.specs.Text.{is_empty}
use Rattle.lrlex_report.specs.PatternClasses.{at_beginning, from_first, is_operation}
use Rattle.lrlex_report.specs.declared.warnings.pattern_classes.Part.{Part}
use Rattle.lrlex_report.specs.declared.warnings.pattern_classes.Part.TheVariants.{Beginning, Outside, Bracket, Caret, Hyphens, Inside, Member, Range, Operated}
use Rattle.lrlex_report.specs.declared.warnings.pattern_classes.Context.{Context}

-- a `[` here begins a class within a class, and none on the right side of an operation
abbrev pub may_nest : Part → Bool
may_nest Beginning = false
may_nest Outside = false
may_nest Bracket = true
may_nest Caret = true
may_nest Hyphens = true
may_nest Inside = true
may_nest Member = true
may_nest Range = false
may_nest Operated = false

-- these two bytes begin a class, but none with a name, as `[:alpha:]`
abbrev pub begins_class : (b c : ℕ) → Bool
begins_class b c = (b == byte "[") && not (c == byte ":")

abbrev pub is_class_operator : Context → List ℕ → Bool
is_class_operator x [] = false
is_class_operator x (b ∷ []) = false
is_class_operator x (b ∷ c ∷ rest) =
    may_nest x.part && begins_class b c || is_operation x.part b c && not (slice_index rest 0 == byte "[")

-- the pattern has one
abbrev pub has_class_operator : (pattern : List ℕ) → Bool
has_class_operator pattern = not (is_empty (from_first is_class_operator at_beginning pattern))
