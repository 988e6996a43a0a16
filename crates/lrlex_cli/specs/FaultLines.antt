-- The lines that the program writes for the errors of a rule text.
use Rattle.std.specs.Prelude.{ℕ, List, [], ◌∷◌, ◌++◌, codes, flat_map}
use Rattle.std.specs.Fmt.{decimal}
use Rattle.lrlex_base.specs.Places.{line_of, column_of}
use Rattle.lrlex_base.specs.Spans.{span_start}
use Rattle.lrlex_base.specs.declared.spans.Span.{Span}
use Rattle.lrlex_parser.specs.LexBuildError.{message, fault_kind, fault_spans}
use Rattle.lrlex_parser.specs.declared.faults.LexErrorKind.{LexErrorKind}
use Rattle.lrlex_parser.specs.declared.faults.LexBuildError.{LexBuildError}

-- the place of a span's start, as `L:C`
abbrev pub place : List ℕ → Span → List ℕ
place rules x = decimal (line_of rules (span_start x)) ++ 58 ∷ decimal (column_of rules (span_start x))

-- the places of spans, each after a comma
abbrev pub more_places : List ℕ → List Span → List ℕ
more_places rules xs = flat_map (λ x. codes ", " ++ place rules x) xs

-- the places of an error after its first
abbrev pub other_places : List ℕ → List Span → List ℕ
other_places rules [] = []
other_places rules (x ∷ xs) = codes ", again at " ++ (place rules x ++ more_places rules xs)

-- `L:C: TEXT`, and the other places of the error
abbrev pub line_at : List ℕ → LexErrorKind → List Span → List ℕ
line_at rules kind [] = []
line_at rules kind (x ∷ xs) = place rules x ++ (codes ": " ++ (message kind ++ (other_places rules xs ++ 10 ∷ [])))

abbrev pub fault_line : List ℕ → LexBuildError → List ℕ
fault_line rules e = line_at rules (fault_kind e) (fault_spans e)

abbrev pub fault_lines : List ℕ → List LexBuildError → List ℕ
fault_lines rules faults = flat_map (fault_line rules) faults
