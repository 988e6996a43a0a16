-- How one more duplicate joins the faults, and where the fault of an original is among them.
use Rattle.std.specs.Prelude.{◌≡◌, ℕ, ◌<◌, ◌==◌, Bool, true, false, ◌&&◌, ◌||◌, if◌then◌else◌, Option, Some, List, [], ◌∷◌, ◌++◌, length, map}
use Rattle.std.specs.Option.{option_map_or}
use Rattle.std.specs.List.{list_any, slice_index_or}
use Rattle.std.specs.Map.{lookup}
use Rattle.std.specs.BTreeMap.{BTreeMap}
use Rattle.lrlex_parser.specs.declared.duplicates.Named.{Named}
use Rattle.lrlex_parser.specs.declared.faults.LexBuildError.{LexBuildError}
use Rattle.lrlex_parser.specs.Event.{Fault, fault, FaultKind, Subject}
use Rattle.lrlex_base.specs.Spans.{Span, span, same_span}
use Rattle.lrlex_parser.specs.Event.Subject.{StateName, RuleName}
use Rattle.lrlex_parser.specs.Event.FaultKind.{DuplicateStartState, DuplicateName}
use Rattle.lrlex_parser.specs.Outcome.{kind_of, same_subject}
use Rattle.lrlex_parser.specs.LexErrorKind.{as_subject}
use Rattle.lrlex_parser.specs.LexBuildResult.{as_fault}

abbrev pub is_kind_of : Subject → FaultKind → Bool
is_kind_of StateName DuplicateStartState = true
is_kind_of RuleName DuplicateName = true
is_kind_of _ _ = false

-- a fault of this kind is that of duplicates
abbrev pub tells_duplicates : FaultKind → Bool
tells_duplicates kind = is_kind_of StateName kind || is_kind_of RuleName kind

abbrev pub first_is : Span → List Span → Bool
first_is original [] = false
first_is original (x ∷ xs) = same_span original x

abbrev pub is_fault_of : Subject → Span → Fault → Bool
is_fault_of subject original f = is_kind_of subject f.kind && first_is original f.spans

-- the fault, with this place if it is its original's
abbrev pub with_place : Subject → Span → Span → Fault → Fault
with_place subject original found f = if is_fault_of subject original f then fault f.kind (f.spans ++ found ∷ []) else f

-- the faults with one more place: in its original's fault, or in a new one
abbrev pub with_duplicate : Subject → Span → Span → List Fault → List Fault
with_duplicate subject original found faults = map (with_place subject original found) faults ++ (if list_any (is_fault_of subject original) faults then [] else fault (kind_of subject) (original ∷ found ∷ []) ∷ [])

-- ---- where the fault of an original is
-- whether a key of the program stands for this original
abbrev pub is_original : Subject → Span → Named × ℕ × ℕ → Bool
is_original subject original key = same_subject subject (as_subject key.0) && same_span original (span key.1 key.2)

-- the index that a map has for the fault of an original
abbrev pub fault_index : BTreeMap (Named × ℕ × ℕ) ℕ → Subject → Span → Option ℕ
fault_index places subject original = lookup (is_original subject original) places.entries

-- the place is noted for this original, and nothing else changes
abbrev pub NotesFault : BTreeMap (Named × ℕ × ℕ) ℕ → BTreeMap (Named × ℕ × ℕ) ℕ → Subject → Span → ℕ → Type 0
NotesFault old new subject original place =
    (s : Subject) (o : Span) → fault_index new s o ≡ (if same_subject subject s && same_span original o then Some place else fault_index old s o)

abbrev pub KeepsFaults : BTreeMap (Named × ℕ × ℕ) ℕ → BTreeMap (Named × ℕ × ℕ) ℕ → Type 0
KeepsFaults old new = (s : Subject) (o : Span) → fault_index new s o ≡ fault_index old s o

-- whether that is the place, if there is one
abbrev pub is_place : Option ℕ → ℕ → Bool
is_place place i = option_map_or (λ (k : ℕ). k == i) place false

-- the place, if there is one, is in the list, and what stands there passes, and nothing else
abbrev pub IsOnlyPlace : {X : Type 0} → (X → Bool) → Option ℕ → List X → Type 0
IsOnlyPlace {X} p place xs = ((i : ℕ) → place ≡ Some i → i < length xs) × ((i : ℕ) (d : X) → i < length xs → p (slice_index_or xs i d) ≡ is_place place i)

-- the map has the place of each original's fault, of which there is at most one
abbrev pub AreFaultPlaces : BTreeMap (Named × ℕ × ℕ) ℕ → List LexBuildError → Type 0
AreFaultPlaces places faults = (subject : Subject) (original : Span) → IsOnlyPlace (λ e. is_fault_of subject original (as_fault e)) (fault_index places subject original) faults
