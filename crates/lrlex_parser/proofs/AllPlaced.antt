-- Each of all faults names places that are in the text.
use Rattle.std.proofs.Common.{◌≡◌, ℕ, ◌+◌, Bool, true, false, List, [], ◌∷◌, ◌++◌, length, drop, map, Option, Some, None, sym, subst}
use Rattle.std.specs.Prelude.{if◌then◌else◌, All, IfSome}
use Rattle.std.specs.Str.{IsUtf8}
use Rattle.std.proofs.lemmas.List.Elements.{All-nil, All-cons, All-head, All-tail, All-append, All-push}
use Rattle.std.proofs.lemmas.Str.{IsCharBoundary-start, IsCharBoundary-end}
use Rattle.lrlex_base.specs.Classes.{is_line_sep}
use Rattle.lrlex_rules.specs.declared.flags.LexFlags.{LexFlags}
use Rattle.lrlex_parser.specs.declared.faults.LexBuildError.{LexBuildError}
use Rattle.lrlex_rules.specs.Flags.{allows_comments}
use Rattle.lrlex_parser.specs.Text.{Piece, is_white, cut_lines}
use Rattle.lrlex_parser.specs.Event.{Fault, fault_at, Event, is_fatal}
use Rattle.lrlex_parser.specs.Event.Event.{NewState, Fatal}
use Rattle.lrlex_parser.specs.Event.FaultKind.{PrematureEnd, RoutinesNotSupported}
use Rattle.lrlex_parser.specs.Declaration.{Declared, initial, declared_by, state_event, section_end, trimmed_lines}
use Rattle.lrlex_parser.specs.Outcome.{line_event, rules_section, faults_after}
use Rattle.lrlex_parser.specs.AllFaults.{settings_at, name_events, declaration_events, rule_events, all_after, declared_lines, lines_after, rule_lines, routines_fault, fault_after, text_fault, then_fault, all_events, onto_first_part, parted, all_faults}
use Rattle.lrlex_parser.specs.LexBuildError.{IsPlaced}
use Rattle.lrlex_parser.specs.LexBuildResult.{as_fault}
use Rattle.lrlex_parser.proofs.Placed.{IsPiece, starts, cut_pieces}
use Rattle.lrlex_parser.proofs.PlacedFaults.{either, all_flat_map, FaultFits, DeclaredFits, EventFits, fits_at, line_declared, section_pieces, trimmed_pieces, state_fits, line_fits, section_fits, MarkFits, mark_fits, faults_fit, faults_placed}

names_fit : (text : List ℕ) (earlier : List Event) (names : List Declared) → All (EventFits text) earlier → All (DeclaredFits text) names → All (EventFits text) (name_events earlier names)
names_fit text earlier [] a h = All-nil (EventFits text)
names_fit text earlier (d ∷ ds) a h =
    let e = state_event earlier d in
    let here : EventFits text e = state_fits text earlier d a (All-head (DeclaredFits text) d ds h) in
    let rest = name_events (earlier ++ e ∷ []) ds in
    either (All (EventFits text)) (is_fatal e) (e ∷ []) (e ∷ rest) (All-cons (EventFits text) e [] here (All-nil (EventFits text)))
    (All-cons (EventFits text) e rest here (names_fit text (earlier ++ e ∷ []) ds (All-push (EventFits text) earlier e a here) (All-tail (DeclaredFits text) d ds h)))

module _ (text : List ℕ) (f : List Event → Piece → List Event) (step : (earlier : List Event) (line : Piece) → All (EventFits text) earlier → IsPiece text line → All (EventFits text) (f earlier line)) where
  lines_fit : (earlier : List Event) (ls : List Piece) → All (EventFits text) earlier → All (IsPiece text) ls → All (EventFits text) (all_after f earlier ls)
  lines_fit earlier [] a h = a
  lines_fit earlier (l ∷ ls) a h =
      lines_fit (earlier ++ f earlier l) ls (All-append (EventFits text) earlier (f earlier l) a (step earlier l a (All-head (IsPiece text) l ls h))) (All-tail (IsPiece text) l ls h)

one_fits : (text : List ℕ) (flags : LexFlags) (greatest : ℕ) (refuses : ℕ → Bool) (earlier : List Event) (line : Piece) → All (EventFits text) earlier → IsPiece text line → All (EventFits text) (rule_events flags greatest refuses earlier line)
one_fits text flags greatest refuses earlier line a p =
    let s = settings_at flags greatest refuses line.at in
    All-cons (EventFits text) (line_event s earlier line) [] (line_fits text s earlier line a p) (All-nil (EventFits text))

abbrev IfFits : List ℕ → Option Fault → Type 0
IfFits text f = IfSome f (FaultFits text)

if_fits : (text : List ℕ) (b : Bool) (f : Fault) → FaultFits text f → IfFits text (if b then None else Some f)
if_fits text true f h = tt
if_fits text false f h = h

routines_fit : (text : List ℕ) (end : Option Piece) → MarkFits text end → IfFits text (routines_fault text end)
routines_fit text None h = tt
routines_fit text (Some mark) h = if_fits text (is_white (drop (mark.at + 2) text)) (fault_at RoutinesNotSupported mark.at) (fits_at text RoutinesNotSupported mark.at (starts text mark h.0))

rest_pieces : (text : List ℕ) (mark : Option Piece) → IsUtf8 text → MarkFits text mark → (comments : Bool) → All (IsPiece text) (lines_after comments text mark)
rest_pieces text None u h comments = All-nil (IsPiece text)
rest_pieces text (Some mark) u h comments =
    let rest = rules_section text mark in
    section_pieces text comments (cut_lines rest) (cut_pieces is_line_sep text rest (section_fits text mark u h.0 h.1))

whole_fits : (text : List ℕ) (mark : Option Piece) → IsUtf8 text → MarkFits text mark → IfFits text (fault_after text mark)
whole_fits text None u h = fits_at text PrematureEnd (length text) (IsCharBoundary-end text)
whole_fits text (Some mark) u h =
    let rest = rules_section text mark in
    let pieces = cut_pieces is_line_sep text rest (section_fits text mark u h.0 h.1) in
    routines_fit text (section_end (cut_lines rest)) (mark_fits text (cut_lines rest) pieces)

then_fits : (text : List ℕ) (es : List Event) (f : Option Fault) → All (EventFits text) es → IfFits text f → All (EventFits text) (then_fault es f)
then_fits text es None a h = a
then_fits text es (Some f) a h = All-push (EventFits text) es (Fatal f) a h

all_fit : (flags : LexFlags) (greatest : ℕ) (refuses : ℕ → Bool) (text : List ℕ) → IsUtf8 text → All (EventFits text) (all_events flags greatest refuses text)
all_fit flags greatest refuses text u =
    let comments = allows_comments flags in
    let start = IsCharBoundary-start text u in
    let first = NewState initial ∷ [] in
    let first_fits : All (EventFits text) first = All-cons (EventFits text) (NewState initial) [] (start, start) (All-nil (EventFits text)) in
    let mark = section_end (trimmed_lines text) in
    let marked : MarkFits text mark = mark_fits text (trimmed_lines text) (trimmed_pieces text u) in
    let declared = all_after declaration_events first (declared_lines comments text) in
    let declared_fit : All (EventFits text) declared = lines_fit text declaration_events (λ earlier line a p. names_fit text earlier (declared_by line) a (line_declared text line p)) first (declared_lines comments text) first_fits (section_pieces text comments (trimmed_lines text) (trimmed_pieces text u)) in
    then_fits text (all_after (rule_events flags greatest refuses) declared (rule_lines comments text)) (text_fault text)
    (lines_fit text (rule_events flags greatest refuses) (one_fits text flags greatest refuses) declared (rule_lines comments text) declared_fit (rest_pieces text mark u marked comments)) (whole_fits text mark u marked)

onto_fits : (text : List ℕ) (e : Event) (parts : List (List Event)) → EventFits text e → All (All (EventFits text)) parts → All (All (EventFits text)) (onto_first_part e parts)
onto_fits text e [] h a = All-cons (All (EventFits text)) (e ∷ []) [] (All-cons (EventFits text) e [] h (All-nil (EventFits text))) (All-nil (All (EventFits text)))
onto_fits text e (p ∷ ps) h a = All-cons (All (EventFits text)) (e ∷ p) ps (All-cons (EventFits text) e p h (All-head (All (EventFits text)) p ps a)) (All-tail (All (EventFits text)) p ps a)

parts_fit : (text : List ℕ) (es : List Event) → All (EventFits text) es → All (All (EventFits text)) (parted es)
parts_fit text [] a = All-cons (All (EventFits text)) [] [] (All-nil (EventFits text)) (All-nil (All (EventFits text)))
parts_fit text (e ∷ es) a =
    let here = All-head (EventFits text) e es a in
    let rest = parts_fit text es (All-tail (EventFits text) e es a) in
    either (All (All (EventFits text))) (is_fatal e) ((e ∷ []) ∷ parted es) (onto_first_part e (parted es))
    (All-cons (All (EventFits text)) (e ∷ []) (parted es) (All-cons (EventFits text) e [] here (All-nil (EventFits text))) rest) (onto_fits text e (parted es) here rest)

pub all_placed : (flags : LexFlags) (greatest : ℕ) (refuses : ℕ → Bool) (text : List ℕ) (es : List LexBuildError) → IsUtf8 text → map as_fault es ≡ all_faults flags greatest refuses text → All (IsPlaced text) es
all_placed flags greatest refuses text es u is =
    faults_placed text es (subst (All (FaultFits text)) (sym is)
    (all_flat_map (All (EventFits text)) (FaultFits text) (faults_after []) (faults_fit text []) (parted (all_events flags greatest refuses text)) (parts_fit text (all_events flags greatest refuses text) (all_fit flags greatest refuses text u))))
