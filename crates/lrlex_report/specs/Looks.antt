-- What in a pattern looks at what is beside its match. Such a pattern has no table.
use Rattle.std.specs.Prelude.{ℕ, ◌==◌, Bool, true, false, not, ◌&&◌, ◌||◌, if◌then◌else◌, List, [], ◌∷◌, slice_index}
use Rattle.std.specs.Str.{byte}
use Rattle.lrlex_parser.specs.Escape.{is_backslash}
use Rattle.lrlex_parser.specs.Text.{is_empty}
use Rattle.lrlex_report.specs.PatternClasses.{at_beginning, from_first}
use Rattle.lrlex_report.specs.declared.warnings.pattern_classes.Part.{Part}
use Rattle.lrlex_report.specs.declared.warnings.pattern_classes.Part.TheVariants.{Beginning, Outside, Bracket, Caret, Hyphens, Inside, Member, Range, Operated}
use Rattle.lrlex_report.specs.declared.warnings.pattern_classes.Context.{Context}

-- a part of the pattern may begin here
abbrev pub is_beginning : Part → Bool
is_beginning Beginning = true
is_beginning Outside = false
is_beginning Bracket = false
is_beginning Caret = false
is_beginning Hyphens = false
is_beginning Inside = false
is_beginning Member = false
is_beginning Range = false
is_beginning Operated = false

-- an escape of this letter looks at the edge of a word, or at the end of the text
abbrev pub is_edge : ℕ → Bool
is_edge c = (c == byte "b") || ((c == byte "B") || ((c == byte "z") || ((c == byte "<") || (c == byte ">"))))

-- such an escape, `$`, or a `^` within the pattern, outside classes of characters
abbrev pub is_look : Context → List ℕ → Bool
is_look x [] = false
is_look x (b ∷ rest) =
    (x.classes == 0)
    && (if is_backslash b then is_edge (slice_index rest 0) else (b == byte "$") || ((b == byte "^") && not (is_beginning x.part)))

-- the pattern has one of these
abbrev pub looks_around : (pattern : List ℕ) → Bool
looks_around pattern = not (is_empty (from_first is_look at_beginning pattern))
