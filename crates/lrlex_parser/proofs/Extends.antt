-- A list of which at most one element passes a test, and the place of that one. A fault with one more place.
use Rattle.std.proofs.Common.{◌≡◌, ℕ, zero, suc, ◌+◌, ◌<◌, ◌≤◌, Bool, true, false, eqb, List, [], ◌∷◌, ◌++◌, length, set, get_or, map, Option, Some, None, refl, sym, ap, subst, ◌∙◌, arith, length-append, length-set, true≢false}
use Rattle.std.specs.Prelude.{◌||◌, ◌&&◌, if◌then◌else◌}
use Rattle.std.specs.List.{list_any}
use Rattle.std.specs.Cmp.{first_so, second_so}
use Rattle.std.proofs.lemmas.Bool.Decides.{nat_tests}
use Rattle.std.proofs.lemmas.Bool.{eqb-true}
use Rattle.std.proofs.lemmas.Option.{same_Some}
use Rattle.std.proofs.lemmas.List.{append-nil, length-map, map_push, map-set, get_or-map, get_or_push, get_or_append_left, get_or-set_same, get_or-set_other}
use Rattle.lrlex_parser.specs.Event.{Fault, fault, FaultKind, Subject}
use Rattle.lrlex_base.specs.Spans.{Span, as_span, same_span}
use Rattle.lrlex_base.specs.declared.spans.Span.{Span as TheSpan}
use Rattle.lrlex_parser.specs.declared.faults.LexBuildError.{LexBuildError}
use Rattle.lrlex_parser.specs.LexBuildResult.{as_fault}
use Rattle.lrlex_parser.specs.Outcome.{kind_of, same_subject}
use Rattle.lrlex_parser.specs.Event.Subject.{StateName, RuleName}
use Rattle.lrlex_parser.specs.Duplicates.{is_kind_of, first_is, tells_duplicates, with_place, with_duplicate, is_fault_of, is_place, IsOnlyPlace}
use Rattle.lrlex_parser.proofs.DuplicateLemmas.{or_false, same_subjects, same_spans, fault_kind}

pub map_at : {Y X : Type 0} (f : Y → X) (xs : List Y) (i : ℕ) (d : Y) → get_or (map f xs) i (f d) ≡ f (get_or xs i d)
map_at f [] i d = refl
map_at f (x ∷ xs) zero d = refl
map_at f (x ∷ xs) (suc i) d = map_at f xs i d

-- ---- at most one passes
abbrev pub AllFail : {X : Type 0} → (X → Bool) → List X → Type 0
AllFail {X} p xs = (i : ℕ) (d : X) → i < length xs → p (get_or xs i d) ≡ false

-- those that pass, changed
abbrev pub change : {X : Type 0} → (X → Bool) → (X → X) → X → X
change p g x = if p x then g x else x

pub none_passes : {X : Type 0} (p : X → Bool) (xs : List X) → AllFail p xs → list_any p xs ≡ false
none_passes p [] h = refl
none_passes p (x ∷ xs) h = ap (λ (b : Bool). b || list_any p xs) (h 0 x (omega arith)) ∙ none_passes p xs (λ i d lt. h (suc i) d (omega arith))

pub change_none : {X : Type 0} (p : X → Bool) (g : X → X) (xs : List X) → AllFail p xs → map (change p g) xs ≡ xs
change_none p g [] h = refl
change_none {X} p g (x ∷ xs) h =
    ap (λ (b : Bool). (if b then g x else x) ∷ map (change p g) xs) (h 0 x (omega arith)) ∙ ap (λ (ys : List X). x ∷ ys) (change_none p g xs (λ i d lt. h (suc i) d (omega arith)))

zero_suc : (k : ℕ) → eqb 0 (suc k) ≡ false
zero_suc k = grind (arith, nat_tests)

suc_zero : (k : ℕ) → eqb (suc k) 0 ≡ false
suc_zero k = grind (arith, nat_tests)

suc_suc : (i k : ℕ) → eqb (suc i) (suc k) ≡ eqb i k
suc_suc i k = grind (arith, nat_tests)

pub self_same : (k : ℕ) → eqb k k ≡ true
self_same k = grind (arith, nat_tests)

-- the one that passes is changed, and nothing else
pub change_one : {X : Type 0} (p : X → Bool) (g : X → X) (xs : List X) (i : ℕ) (d : X) → i < length xs → ((k : ℕ) (e : X) → k < length xs → p (get_or xs k e) ≡ eqb i k) → map (change p g) xs ≡ set xs i (g (get_or xs i d))
change_one p g [] i d lt h = absurd (omega arith)
change_one {X} p g (x ∷ xs) zero d lt h =
    ap (λ (b : Bool). (if b then g x else x) ∷ map (change p g) xs) (h 0 x lt ∙ self_same 0) ∙ ap (λ (ys : List X). g x ∷ ys) (change_none p g xs (λ k e l. h (suc k) e (omega arith) ∙ zero_suc k))
change_one {X} p g (x ∷ xs) (suc i) d lt h =
    ap (λ (b : Bool). (if b then g x else x) ∷ map (change p g) xs) (h 0 x (omega arith) ∙ suc_zero i)
    ∙ ap (λ (ys : List X). x ∷ ys) (change_one p g xs i d (omega arith) (λ k e l. h (suc k) e (omega arith) ∙ suc_suc i k))

or_true : (b : Bool) → (b || true) ≡ true
or_true true = refl
or_true false = refl

pub one_passes : {X : Type 0} (p : X → Bool) (xs : List X) (i : ℕ) (d : X) → i < length xs → p (get_or xs i d) ≡ true → list_any p xs ≡ true
one_passes p [] i d lt h = absurd (omega arith)
one_passes p (x ∷ xs) zero d lt h = ap (λ (b : Bool). b || list_any p xs) h
one_passes p (x ∷ xs) (suc i) d lt h = ap (λ (b : Bool). p x || b) (one_passes p xs i d (omega arith) h) ∙ or_true (p x)

length_push : {X : Type 0} (xs : List X) (x : X) → length (xs ++ x ∷ []) ≡ length xs + 1
length_push xs x = simp length-append

place_before : (place : Option ℕ) (n i : ℕ) → ((k : ℕ) → place ≡ Some k → k < n) → n ≤ i → is_place place i ≡ false
place_before None n i h le = refl
place_before (Some k) n i h le = let lt : k < n = h k refl in grind (arith, nat_tests)

same_flip : (a b : ℕ) (t : Bool) → eqb a b ≡ t → eqb b a ≡ t
same_flip a b t h = grind (arith, nat_tests)

module _ {X : Type 0} (p : X → Bool) (xs : List X) (x : X) where
  below_push : (i : ℕ) → eqb i (length xs) ≡ false → i < length (xs ++ x ∷ []) → i < length xs
  below_push i e lt = let n = length_push xs x in grind (arith, nat_tests)

  at_push : (i : ℕ) (d : X) (b : Bool) → eqb i (length xs) ≡ b → i < length (xs ++ x ∷ []) → p (get_or (xs ++ x ∷ []) i d) ≡ (if b then p x else p (get_or xs i d))
  at_push i d true e lt = ap p (get_or_push xs x d i (sym (eqb-true i (length xs) e)))
  at_push i d false e lt = ap p (get_or_append_left xs (x ∷ []) d i (below_push i e lt))

  -- one more element, which fails, or is the first that passes
  pub only_push_fail : (place : Option ℕ) → IsOnlyPlace p place xs → p x ≡ false → IsOnlyPlace p place (xs ++ x ∷ [])
  only_push_fail place h e = (
    λ i at. let lt = h.0 i at in omega (arith, length_push xs x),
    λ i d lt. at_push i d (eqb i (length xs)) refl lt ∙ fails_at i d (eqb i (length xs)) refl lt,
  )
    where
      fails_at : (i : ℕ) (d : X) (b : Bool) → eqb i (length xs) ≡ b → i < length (xs ++ x ∷ []) → (if b then p x else p (get_or xs i d)) ≡ is_place place i
      fails_at i d true k lt = e ∙ sym (place_before place (length xs) i h.0 (omega (arith, eqb-true i (length xs) k)))
      fails_at i d false k lt = h.1 i d (below_push i k lt)

  pub only_push_pass : IsOnlyPlace p None xs → p x ≡ true → IsOnlyPlace p (Some (length xs)) (xs ++ x ∷ [])
  only_push_pass h e = (
    λ i at. let is = same_Some (length xs) i at in omega (arith, length_push xs x),
    λ i d lt. at_push i d (eqb i (length xs)) refl lt ∙ passes_at i d (eqb i (length xs)) refl lt,
  )
    where
      passes_at : (i : ℕ) (d : X) (b : Bool) → eqb i (length xs) ≡ b → i < length (xs ++ x ∷ []) → (if b then p x else p (get_or xs i d)) ≡ is_place (Some (length xs)) i
      passes_at i d true k lt = e ∙ sym (same_flip i (length xs) true k)
      passes_at i d false k lt = h.1 i d (below_push i k lt) ∙ sym (same_flip i (length xs) false k)

-- an element in the place of one that passes just as it does
pub only_set : {X : Type 0} (p : X → Bool) (place : Option ℕ) (xs : List X) (i : ℕ) (x : X) → IsOnlyPlace p place xs → p x ≡ p (get_or xs i x) → IsOnlyPlace p place (set xs i x)
only_set {X} p place xs i x h e = (
  λ k at. let lt = h.0 k at in omega (arith, length-set xs i x),
  λ k d lt. set_at k d (eqb k i) refl (omega (arith, length-set xs i x)),
)
  where
    set_at : (k : ℕ) (d : X) (b : Bool) → eqb k i ≡ b → k < length xs → p (get_or (set xs i x) k d) ≡ is_place place k
    set_at k d true is lt =
        let here : k ≡ i = eqb-true k i is in
        ap (λ (n : ℕ). p (get_or (set xs i x) n d)) here ∙ ap p (get_or-set_same xs i x d (omega arith)) ∙ e ∙ h.1 i x (omega arith) ∙ ap (is_place place) (sym here)
    set_at k d false is lt = ap p (get_or-set_other xs i k x d (λ here. true≢false (sym (ap (λ (n : ℕ). eqb n i) here ∙ self_same i) ∙ is))) ∙ h.1 k d lt

-- ---- faults
and_false : (b : Bool) → (b && false) ≡ false
and_false true = refl
and_false false = refl

pub lone_fails : (s : Subject) (o : Span) (f : Fault) → tells_duplicates f.kind ≡ false → is_fault_of s o f ≡ false
lone_fails StateName o f h = ap (λ (b : Bool). b && first_is o f.spans) (or_false (is_kind_of StateName f.kind) (is_kind_of RuleName f.kind) h).0
lone_fails RuleName o f h = ap (λ (b : Bool). b && first_is o f.spans) (or_false (is_kind_of StateName f.kind) (is_kind_of RuleName f.kind) h).1

-- a fault that has a place has another one more, or not
pub grown : (s s' : Subject) (o o' : Span) (kind : FaultKind) (xs : List TheSpan) (found : TheSpan) (b : Bool) → is_fault_of s' o' (fault kind (map as_span xs)) ≡ true
    → is_fault_of s o (fault kind (map as_span (if b then xs ++ found ∷ [] else xs))) ≡ is_fault_of s o (fault kind (map as_span xs))
grown s s' o o' kind [] found b h = absurd (true≢false (sym h ∙ and_false (is_kind_of s' kind)))
grown s s' o o' kind (x ∷ xs) found true h = refl
grown s s' o o' kind (x ∷ xs) found false h = refl

module _ (s : Subject) (o found : Span) (list : List LexBuildError) where
  abbrev joined : Fault → Fault
  joined f = fault f.kind (f.spans ++ found ∷ [])

  seen_at : (place : Option ℕ) (x : LexBuildError) → IsOnlyPlace (λ e. is_fault_of s o (as_fault e)) place list → (k : ℕ) (f : Fault) → k < length (map as_fault list) → is_fault_of s o (get_or (map as_fault list) k f) ≡ is_place place k
  seen_at place x h k f lt =
      let short : k < length list = omega (arith, length-map list as_fault) in
      ap (is_fault_of s o) (get_or-map as_fault list k x f short) ∙ h.1 k x short

  -- one more place in the fault of the original
  pub extends_known : (i : ℕ) (x y : LexBuildError) → IsOnlyPlace (λ e. is_fault_of s o (as_fault e)) (Some i) list → x ≡ get_or list i x → as_fault y ≡ fault (as_fault x).kind ((as_fault x).spans ++ found ∷ [])
      → map as_fault (set list i y) ≡ with_duplicate s o found (map as_fault list)
  extends_known i x y h at is =
      let fs = map as_fault list in
      let lt : i < length fs = let short = h.0 i refl in omega (arith, length-map list as_fault) in
      let f = as_fault x in
      let here : get_or fs i f ≡ f = map_at as_fault list i x ∙ ap as_fault (sym at) in
      let passes : is_fault_of s o (get_or fs i f) ≡ true = seen_at (Some i) x h i f lt ∙ self_same i in
      map-set as_fault list i y ∙ ap (set fs i) (is ∙ ap joined (sym here)) ∙ sym (change_one (is_fault_of s o) joined fs i f lt (seen_at (Some i) x h))
      ∙ sym (append-nil (map (with_place s o found) fs))
      ∙ ap (λ (b : Bool). map (with_place s o found) fs ++ (if b then [] else fault (kind_of s) (o ∷ found ∷ []) ∷ [])) (sym (one_passes (is_fault_of s o) fs i f lt passes))

  -- a new fault, where the original had none
  pub extends_new : (y : LexBuildError) → IsOnlyPlace (λ e. is_fault_of s o (as_fault e)) None list → as_fault y ≡ fault (kind_of s) (o ∷ found ∷ []) → map as_fault (list ++ y ∷ []) ≡ with_duplicate s o found (map as_fault list)
  extends_new y h is =
      let fs = map as_fault list in
      let fail : AllFail (is_fault_of s o) fs = seen_at None y h in
      let made = fault (kind_of s) (o ∷ found ∷ []) in
      map_push as_fault list y ∙ ap (λ (f : Fault). fs ++ f ∷ []) is ∙ ap (λ (gs : List Fault). gs ++ made ∷ []) (sym (change_none (is_fault_of s o) joined fs fail))
      ∙ ap (λ (b : Bool). map (with_place s o found) fs ++ (if b then [] else made ∷ [])) (sym (none_passes (is_fault_of s o) fs fail))

-- which faults are those of an original
abbrev pub tests : Subject → Span → LexBuildError → Bool
tests s o e = is_fault_of s o (as_fault e)

-- the places, where the list is longer by a new fault, which is noted for its original
module _ (s' : Subject) (o' found : Span) (old new : Subject → Span → Option ℕ) (list : List LexBuildError) (y : LexBuildError) (was : (s : Subject) (o : Span) → IsOnlyPlace (tests s o) (old s o) list) (none : old s' o' ≡ None)
    (is : as_fault y ≡ fault (kind_of s') (o' ∷ found ∷ [])) (now : (s : Subject) (o : Span) → new s o ≡ (if same_subject s' s && same_span o' o then Some (length list) else old s o)) where
  passes : (s : Subject) (o : Span) → tests s o y ≡ (same_subject s' s && same_span o' o)
  passes s o = ap (is_fault_of s o) is ∙ fault_kind s s' o o' (found ∷ [])

  by_test : (s : Subject) (o : Span) (b : Bool) → (same_subject s' s && same_span o' o) ≡ b → IsOnlyPlace (tests s o) (if b then Some (length list) else old s o) (list ++ y ∷ [])
  by_test s o true e =
      let none_yet : old s o ≡ None =
      ap (λ (t : Subject). old t o) (sym (same_subjects s' s (first_so _ _ e))) ∙ ap (old s') (sym (same_spans o' o (second_so _ _ e))) ∙ none in
      let P : Option ℕ → Type 0 = λ place. IsOnlyPlace (tests s o) place list in
      only_push_pass (tests s o) list y (subst P none_yet (was s o)) (passes s o ∙ e)
  by_test s o false e = only_push_fail (tests s o) list y (old s o) (was s o) (passes s o ∙ e)

  pub places_more : (s : Subject) (o : Span) → IsOnlyPlace (tests s o) (new s o) (list ++ y ∷ [])
  places_more s o =
      let P : Option ℕ → Type 0 = λ place. IsOnlyPlace (tests s o) place (list ++ y ∷ []) in
      subst P (sym (now s o)) (by_test s o (same_subject s' s && same_span o' o) refl)
