-- The faults of one more event.
use Rattle.std.proofs.Common.{◌≡◌, ℕ, Bool, true, false, eqb, List, [], ◌∷◌, ◌++◌, Option, Some, None, refl, sym, ap, ◌∙◌, arith, map}
use Rattle.std.specs.Prelude.{◌&&◌, ◌||◌, if◌then◌else◌, is_some}
use Rattle.std.specs.List.{list_any, filter_map, cons_option}
use Rattle.std.proofs.lemmas.List.{append-nil, append_assoc}
use Rattle.std.specs.Cmp.{first_so, second_so}
use Rattle.std.proofs.lemmas.Bool.{eqb-true}
use Rattle.std.proofs.lemmas.Bool.Decides.{nat_tests}
use Rattle.std.proofs.lemmas.List.Folds.{list_any-append}
use Rattle.lrlex_parser.specs.Event.{Fault, fault, FaultKind, Event, Subject, is_fatal, is_refused}
use Rattle.lrlex_base.specs.Spans.{Span, span, same_span}
use Rattle.lrlex_parser.specs.Event.Subject.{StateName, RuleName}
use Rattle.lrlex_parser.specs.Event.Event.{NewState, NewRule, Duplicate, Verbatim, Refused, Fatal}
use Rattle.lrlex_parser.specs.Outcome.{fault_of, faults_after, duplicate_of, same_subject, kind_of}
use Rattle.lrlex_parser.specs.Duplicates.{is_kind_of, is_fault_of, with_place, with_duplicate}

-- an event that is no duplicate leaves the faults before it as they are
abbrev pub is_duplicate : Event → Bool
is_duplicate (Duplicate s o f) = true
is_duplicate _ = false

filter_map_other : (subject : Subject) (original : Span) (es : List Event) (e : Event) → is_duplicate e ≡ false → filter_map (duplicate_of subject original) (es ++ e ∷ []) ≡ filter_map (duplicate_of subject original) es
filter_map_other subject original [] (NewState s) h = refl
filter_map_other subject original [] (NewRule s) h = refl
filter_map_other subject original [] (Verbatim s) h = refl
filter_map_other subject original [] (Refused _ _) h = refl
filter_map_other subject original [] (Fatal s) h = refl
filter_map_other subject original [] (Duplicate s o f) h = cc
filter_map_other subject original (x ∷ es) e h = ap (cons_option (duplicate_of subject original x)) (filter_map_other subject original es e h)

fault_of_other : (earlier : List Event) (x : Event) (es : List Event) (e : Event) → is_duplicate e ≡ false → fault_of earlier x (es ++ e ∷ []) ≡ fault_of earlier x es
fault_of_other earlier (NewState s) es e h = refl
fault_of_other earlier (NewRule s) es e h = refl
fault_of_other earlier (Verbatim s) es e h = refl
fault_of_other earlier (Refused _ _) es e h = refl
fault_of_other earlier (Fatal s) es e h = refl
fault_of_other earlier (Duplicate s o f) es e h = ap (λ (xs : List Span). if list_any (λ d. is_some (duplicate_of s o d)) earlier then [] else fault (kind_of s) (o ∷ f ∷ xs) ∷ []) (filter_map_other s o es e h)

pub faults_other : (earlier es : List Event) (e : Event) → is_duplicate e ≡ false → faults_after earlier (es ++ e ∷ []) ≡ faults_after earlier es ++ fault_of (earlier ++ es) e []
faults_other earlier [] e h = append-nil (fault_of earlier e []) ∙ ap (λ (xs : List Event). fault_of xs e []) (sym (append-nil earlier))
faults_other earlier (x ∷ es) e h =
    ap (λ (fs : List Fault). fs ++ faults_after (earlier ++ x ∷ []) (es ++ e ∷ [])) (fault_of_other earlier x es e h)
    ∙ ap (λ (fs : List Fault). fault_of earlier x es ++ fs) (faults_other (earlier ++ x ∷ []) es e h)
    ∙ sym (append_assoc (fault_of earlier x es) (faults_after (earlier ++ x ∷ []) es) (fault_of ((earlier ++ x ∷ []) ++ es) e []))
    ∙ ap (λ (xs : List Event). (fault_of earlier x es ++ faults_after (earlier ++ x ∷ []) es) ++ fault_of xs e []) (append_assoc earlier (x ∷ []) es)

-- ---- a duplicate joins the fault of its original
kinds : (s s' : Subject) → is_kind_of s (kind_of s') ≡ same_subject s s'
kinds StateName StateName = refl
kinds StateName RuleName = refl
kinds RuleName StateName = refl
kinds RuleName RuleName = refl

-- one more found, or not
one_more : (b : Bool) (kind : FaultKind) (front : List Span) (found : Span) → fault kind (front ++ cons_option (if b then Some found else None) []) ≡ (if b then fault kind (front ++ found ∷ []) else fault kind front)
one_more true kind front found = refl
one_more false kind front found = ap (fault kind) (append-nil front)

filter_map-append : (h : Event → Option Span) (es : List Event) (e : Event) → filter_map h (es ++ e ∷ []) ≡ filter_map h es ++ cons_option (h e) []
filter_map-append h [] e = refl
filter_map-append h (x ∷ es) e = elim (h x) as (λ o. cons_option o (filter_map h (es ++ e ∷ [])) ≡ cons_option o (filter_map h es) ++ cons_option (h e) []) [ None ↦ filter_map-append h es e | Some y ↦ ap (λ (ys : List Span). y ∷ ys) (filter_map-append h es e) ]

map_cond : (b : Bool) (f : Fault → Fault) (x : Fault) → map f (if b then [] else x ∷ []) ≡ (if b then [] else f x ∷ [])
map_cond true f x = refl
map_cond false f x = refl

fault_of_duplicate : (earlier : List Event) (x : Event) (es : List Event) (s : Subject) (o f : Span) → is_fatal x ≡ false → fault_of earlier x (es ++ Duplicate s o f ∷ []) ≡ map (with_place s o f) (fault_of earlier x es)
fault_of_duplicate earlier (NewState _) es s o f h = refl
fault_of_duplicate earlier (NewRule _) es s o f h = refl
fault_of_duplicate earlier (Refused _ _) es s o f h = cc
fault_of_duplicate earlier (Fatal _) es s o f h = cc
fault_of_duplicate earlier (Verbatim _) es StateName o f h = refl
fault_of_duplicate earlier (Verbatim _) es RuleName o f h = refl
fault_of_duplicate earlier (Duplicate s' o' f') es s o f h =
    let b = list_any (λ d. is_some (duplicate_of s' o' d)) earlier in
    let places = filter_map (duplicate_of s' o') es in
    let same = same_subject s s' && same_span o o' in
    ap (λ (xs : List Span). if b then [] else fault (kind_of s') (o' ∷ f' ∷ xs) ∷ []) (filter_map-append (duplicate_of s' o') es (Duplicate s o f))
    ∙ ap (λ (y : Fault). if b then [] else y ∷ []) (one_more same (kind_of s') (o' ∷ f' ∷ places) f
    ∙ ap (λ (k : Bool). if k && same_span o o' then fault (kind_of s') ((o' ∷ f' ∷ places) ++ f ∷ []) else fault (kind_of s') (o' ∷ f' ∷ places)) (sym (kinds s s')))
    ∙ sym (map_cond b (with_place s o f) (fault (kind_of s') (o' ∷ f' ∷ places)))

map-append : (f : Fault → Fault) (xs ys : List Fault) → map f (xs ++ ys) ≡ map f xs ++ map f ys
map-append f [] ys = refl
map-append f (x ∷ xs) ys = ap (λ (zs : List Fault). f x ∷ zs) (map-append f xs ys)

pub or_false : (a b : Bool) → (a || b) ≡ false → (a ≡ false) × (b ≡ false)
or_false true b h = cc
or_false false b h = (refl, h)

pub faults_duplicate : (earlier es : List Event) (s : Subject) (o f : Span) → is_refused es ≡ false
    → faults_after earlier (es ++ Duplicate s o f ∷ []) ≡ map (with_place s o f) (faults_after earlier es) ++ fault_of (earlier ++ es) (Duplicate s o f) []
faults_duplicate earlier [] s o f h = append-nil (fault_of earlier (Duplicate s o f) []) ∙ ap (λ (xs : List Event). fault_of xs (Duplicate s o f) []) (sym (append-nil earlier))
faults_duplicate earlier (x ∷ es) s o f h =
    let e = Duplicate s o f in
    let calm : is_fatal x ≡ false = (or_false (is_fatal x) (is_refused es) h).0 in
    let rest : is_refused es ≡ false = (or_false (is_fatal x) (is_refused es) h).1 in
    ap (λ (fs : List Fault). fs ++ faults_after (earlier ++ x ∷ []) (es ++ e ∷ [])) (fault_of_duplicate earlier x es s o f calm)
    ∙ ap (λ (fs : List Fault). map (with_place s o f) (fault_of earlier x es) ++ fs) (faults_duplicate (earlier ++ x ∷ []) es s o f rest)
    ∙ sym (append_assoc (map (with_place s o f) (fault_of earlier x es)) (map (with_place s o f) (faults_after (earlier ++ x ∷ []) es)) (fault_of ((earlier ++ x ∷ []) ++ es) e []))
    ∙ ap (λ (fs : List Fault). fs ++ fault_of ((earlier ++ x ∷ []) ++ es) e []) (sym (map-append (with_place s o f) (fault_of earlier x es) (faults_after (earlier ++ x ∷ []) es)))
    ∙ ap (λ (xs : List Event). map (with_place s o f) (fault_of earlier x es ++ faults_after (earlier ++ x ∷ []) es) ++ fault_of xs e []) (append_assoc earlier (x ∷ []) es)

-- ---- which originals have a fault
abbrev pub has_duplicate : Subject → Span → List Event → Bool
has_duplicate s o es = list_any (λ e. is_some (duplicate_of s o e)) es

pub same_spans : (a b : Span) → same_span a b ≡ true → a ≡ b
same_spans a b h =
    let first : a.start ≡ b.start = eqb-true a.start b.start (first_so _ _ h) in
    let last : a.end ≡ b.end = eqb-true a.end b.end (second_so _ _ h) in
    ap (λ (n : ℕ). span n a.end) first ∙ ap (λ (n : ℕ). span b.start n) last

pub eqb-flip : (a b : ℕ) → eqb a b ≡ eqb b a
eqb-flip a b = grind (arith, nat_tests)

same_span-flip : (a b : Span) → same_span a b ≡ same_span b a
same_span-flip a b = rw (eqb-flip a.start b.start, eqb-flip a.end b.end) refl

pub same_subjects : (s t : Subject) → same_subject s t ≡ true → s ≡ t
same_subjects StateName StateName h = refl
same_subjects StateName RuleName h = cc
same_subjects RuleName StateName h = cc
same_subjects RuleName RuleName h = refl

same_subject-flip : (s t : Subject) → same_subject s t ≡ same_subject t s
same_subject-flip StateName StateName = refl
same_subject-flip StateName RuleName = refl
same_subject-flip RuleName StateName = refl
same_subject-flip RuleName RuleName = refl

found_there : (k : Bool) (f : Span) → is_some (if k then Some f else None) ≡ k
found_there true f = refl
found_there false f = refl

has_append : (s : Subject) (o : Span) (es : List Event) (e : Event) → has_duplicate s o (es ++ e ∷ []) ≡ (has_duplicate s o es || (is_some (duplicate_of s o e) || false))
has_append s o es e = list_any-append (λ x. is_some (duplicate_of s o x)) es (e ∷ [])

-- an event other than a duplicate
plain : (s : Subject) (o : Span) (earlier : List Event) (x : Event) (es : List Event) → is_duplicate x ≡ false → is_fatal x ≡ false → (list_any (is_fault_of s o) (fault_of earlier x es) ≡ false) × (is_some (duplicate_of s o x) ≡ false)
plain s o earlier (NewState _) es h k = (refl, refl)
plain s o earlier (NewRule _) es h k = (refl, refl)
plain StateName o earlier (Verbatim _) es h k = (refl, refl)
plain RuleName o earlier (Verbatim _) es h k = (refl, refl)
plain s o earlier (Refused _ _) es h k = cc
plain s o earlier (Fatal _) es h k = cc
plain s o earlier (Duplicate _ _ _) es h k = cc

-- the fault of a duplicate is the original's only where the duplicate is
list_cond : (b : Bool) (s : Subject) (o : Span) (f : Fault) → list_any (is_fault_of s o) (if b then [] else f ∷ []) ≡ (if b then false else (is_fault_of s o f || false))
list_cond true s o f = refl
list_cond false s o f = refl

pub fault_kind : (s s' : Subject) (o o' : Span) (more : List Span) → is_fault_of s o (fault (kind_of s') (o' ∷ more)) ≡ (same_subject s' s && same_span o' o)
fault_kind s s' o o' more = ap (λ (k : Bool). k && same_span o o') (kinds s s' ∙ same_subject-flip s s') ∙ ap (λ (k : Bool). same_subject s' s && k) (same_span-flip o o')

cond_false : (b k : Bool) → k ≡ false → (if b then false else (k || false)) ≡ false
cond_false true k h = refl
cond_false false k h = rw h refl

cond_hit : (a b k : Bool) → k ≡ true → b ≡ a → a ≡ false → (if b then false else (k || false)) ≡ true
cond_hit a b k h e n = rw (e, n, h) refl

miss : (a m k l d : Bool) → m ≡ false → k ≡ false → ((a || (k || false)) || l) ≡ ((a || (k || false)) || d) → (a || (m || l)) ≡ (a || (k || d))
miss true m k l d hm hk h = refl
miss false true k l d hm hk h = cc
miss false false true l d hm hk h = cc
miss false false false l d hm hk h = h

hit : (a m k l d : Bool) → k ≡ true → (a ≡ false → m ≡ true) → (a || (m || l)) ≡ (a || (k || d))
hit true m k l d hk h = refl
hit false m k l d hk h = rw (h refl, hk) refl

module _ (s : Subject) (o : Span) (earlier es : List Event) (l d : Bool) where
  known_plain : (x : Event) → is_duplicate x ≡ false → is_fatal x ≡ false
      → ((has_duplicate s o earlier || (is_some (duplicate_of s o x) || false)) || l) ≡ ((has_duplicate s o earlier || (is_some (duplicate_of s o x) || false)) || d)
      → (has_duplicate s o earlier || (list_any (is_fault_of s o) (fault_of earlier x es) || l)) ≡ (has_duplicate s o earlier || (is_some (duplicate_of s o x) || d))
  known_plain x one calm h = let none = plain s o earlier x es one calm in miss _ _ _ l d none.0 none.1 h

  known_duplicate : (s' : Subject) (o' f' : Span) (q : Bool) → (same_subject s' s && same_span o' o) ≡ q → let x = Duplicate s' o' f' in
      ((has_duplicate s o earlier || (is_some (duplicate_of s o x) || false)) || l) ≡ ((has_duplicate s o earlier || (is_some (duplicate_of s o x) || false)) || d)
      → (has_duplicate s o earlier || (list_any (is_fault_of s o) (fault_of earlier x es) || l)) ≡ (has_duplicate s o earlier || (is_some (duplicate_of s o x) || d))
  known_duplicate s' o' f' false e h =
      let f = fault (kind_of s') (o' ∷ f' ∷ filter_map (duplicate_of s' o') es) in
      miss (has_duplicate s o earlier) (list_any (is_fault_of s o) (fault_of earlier (Duplicate s' o' f') es)) (is_some (duplicate_of s o (Duplicate s' o' f'))) l d
      (list_cond (has_duplicate s' o' earlier) s o f ∙ cond_false (has_duplicate s' o' earlier) (is_fault_of s o f) (fault_kind s s' o o' (f' ∷ filter_map (duplicate_of s' o') es) ∙ e))
      (found_there (same_subject s' s && same_span o' o) f' ∙ e) h
  known_duplicate s' o' f' true e h =
      let f = fault (kind_of s') (o' ∷ f' ∷ filter_map (duplicate_of s' o') es) in
      let subjects : s' ≡ s = same_subjects s' s (first_so _ _ e) in
      let places : o' ≡ o = same_spans o' o (second_so _ _ e) in
      let same : has_duplicate s' o' earlier ≡ has_duplicate s o earlier = ap (λ (x : Subject). has_duplicate x o' earlier) subjects ∙ ap (λ (x : Span). has_duplicate s x earlier) places in
      hit (has_duplicate s o earlier) (list_any (is_fault_of s o) (fault_of earlier (Duplicate s' o' f') es)) (is_some (duplicate_of s o (Duplicate s' o' f'))) l d
      (found_there (same_subject s' s && same_span o' o) f' ∙ e)
      (λ none. list_cond (has_duplicate s' o' earlier) s o f ∙ cond_hit (has_duplicate s o earlier) (has_duplicate s' o' earlier) (is_fault_of s o f) (fault_kind s s' o o' (f' ∷ filter_map (duplicate_of s' o') es) ∙ e) same none)

known_step : (s : Subject) (o : Span) (earlier : List Event) (x : Event) (es : List Event) (l d : Bool) → is_fatal x ≡ false
    → ((has_duplicate s o earlier || (is_some (duplicate_of s o x) || false)) || l) ≡ ((has_duplicate s o earlier || (is_some (duplicate_of s o x) || false)) || d)
    → (has_duplicate s o earlier || (list_any (is_fault_of s o) (fault_of earlier x es) || l)) ≡ (has_duplicate s o earlier || (is_some (duplicate_of s o x) || d))
known_step s o earlier (NewState y) es l d calm h = known_plain s o earlier es l d (NewState y) refl calm h
known_step s o earlier (NewRule y) es l d calm h = known_plain s o earlier es l d (NewRule y) refl calm h
known_step s o earlier (Verbatim y) es l d calm h = known_plain s o earlier es l d (Verbatim y) refl calm h
known_step s o earlier (Refused _ _) es l d calm h = cc
known_step s o earlier (Fatal y) es l d calm h = cc
known_step s o earlier (Duplicate s' o' f') es l d calm h = known_duplicate s o earlier es l d s' o' f' (same_subject s' s && same_span o' o) refl h

pub faults_known : (s : Subject) (o : Span) (earlier es : List Event) → is_refused es ≡ false → (has_duplicate s o earlier || list_any (is_fault_of s o) (faults_after earlier es)) ≡ (has_duplicate s o earlier || has_duplicate s o es)
faults_known s o earlier [] h = refl
faults_known s o earlier (x ∷ es) h =
    let two = or_false (is_fatal x) (is_refused es) h in
    let l = list_any (is_fault_of s o) (faults_after (earlier ++ x ∷ []) es) in
    let d = has_duplicate s o es in
    ap (λ (b : Bool). has_duplicate s o earlier || b) (list_any-append (is_fault_of s o) (fault_of earlier x es) (faults_after (earlier ++ x ∷ []) es))
    ∙ known_step s o earlier x es l d two.0 (ap (λ (b : Bool). b || l) (sym (has_append s o earlier x)) ∙ faults_known s o (earlier ++ x ∷ []) es two.1 ∙ ap (λ (b : Bool). b || d) (has_append s o earlier x))

-- a duplicate joins the faults
pub with_duplicate_is : (es : List Event) (s : Subject) (o f : Span) → is_refused es ≡ false → faults_after [] (es ++ Duplicate s o f ∷ []) ≡ with_duplicate s o f (faults_after [] es)
with_duplicate_is es s o f h =
    faults_duplicate [] es s o f h ∙ ap (λ (b : Bool). map (with_place s o f) (faults_after [] es) ++ (if b then [] else fault (kind_of s) (o ∷ f ∷ []) ∷ [])) (sym (faults_known s o [] es h))
