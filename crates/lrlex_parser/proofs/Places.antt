-- Spans of the program, and faults that name one. Where in a list each name stands.
use Rattle.std.proofs.Common.{◌≡◌, ℕ, ◌+◌, ◌≤◌, Bool, true, false, not, cond, nat_lt, eqb, List, [], ◌∷◌, ◌++◌, length, map, Option, Some, None, Bor, refl, sym, ap, ◌∙◌, arith, length-append}
use Rattle.std.specs.Prelude.{if◌then◌else◌, is_some}
use Rattle.std.specs.Option.{option_map, option_or, option_and_then, option_copied}
use Rattle.std.specs.Slice.{IsItemAt}
use Rattle.std.proofs.lemmas.Option.{slice_get_past, slice_get_read}
use Rattle.std.proofs.lemmas.List.Sums.{prefix_len-le-length}
use Rattle.std.proofs.lemmas.Bool.{ltb-false}
use Rattle.std.proofs.lemmas.Bool.Decides.{nat_tests}
use Rattle.regex_hir.proofs.OptionLemmas.{option_or-None}
use Rattle.std.specs.List.{find, position, position_or_len, slice_get}
use Rattle.std.specs.Str.{bytes_eq}
use Rattle.std.proofs.lemmas.List.Folds.{find_at, position_or_len_push}
use Rattle.std.proofs.lemmas.Slice.Eq.{bytes_eq-Decides}
use Rattle.lrlex_parser.specs.Names.{is_name, index_if_named}
use Rattle.lrlex_base.specs.Spans.{Span, span, as_span, span_start, span_end}
use Rattle.lrlex_base.specs.declared.spans.Span.{Span as TheSpan}
use Rattle.lrlex_parser.specs.declared.faults.LexBuildError.{LexBuildError}
use Rattle.lrlex_parser.specs.declared.faults.LexErrorKind.{LexErrorKind}
use Rattle.lrlex_parser.specs.LexBuildError.{fault_kind, fault_spans}
use Rattle.lrlex_parser.specs.Event.{fault}
use Rattle.lrlex_parser.specs.LexErrorKind.{as_kind}
use Rattle.lrlex_parser.specs.LexParser.{as_fault}

pub span_from : (s : TheSpan) (start end : ℕ) → span_start s ≡ start → span_end s ≡ end → as_span s ≡ span start end
span_from s start end h k = ap (λ (n : ℕ). span n (span_end s)) h ∙ ap (λ (n : ℕ). span start n) k

pub one_fault : (x : LexBuildError) (kind : LexErrorKind) (items : List TheSpan) (s : TheSpan) (start end : ℕ) → fault_kind x ≡ kind → fault_spans x ≡ items → items ≡ s ∷ [] → span_start s ≡ start → span_end s ≡ end
    → as_fault x ≡ fault (as_kind kind) (span start end ∷ [])
one_fault x kind items s start end hk hs hi h k =
    ap (λ (y : LexErrorKind). fault (as_kind y) (map as_span (fault_spans x))) hk ∙ ap (λ (ys : List TheSpan). fault (as_kind kind) (map as_span ys)) (hs ∙ hi)
    ∙ ap (λ (y : Span). fault (as_kind kind) (y ∷ [])) (span_from s start end h k)

-- ---- names
-- a reference to the item at i, if there is one
pub got : {X : Type 0} (xs : List X) (i : ℕ) (r : Option (Bor X)) → IsItemAt xs i r → option_copied r ≡ slice_get xs i
got xs i None h = sym (slice_get_past xs i h.3)
got xs i (Some x) h = sym (slice_get_read xs (length xs) i x.now refl h.3.0 h.1)

find-map : {X Y : Type 0} (p : Y → Bool) (f : X → Y) (xs : List X) → find p (map f xs) ≡ option_map f (find (λ x. p (f x)) xs)
find-map p f [] = refl
find-map {X} {Y} p f (x ∷ xs) =
    elim (p (f x)) as (λ b. cond b (Some (f x)) (find p (map f xs)) ≡ option_map f (cond b (Some x) (find (λ (y : X). p (f y)) xs))) [ true ↦ refl | false ↦ find-map p f xs ]

by_place : {X : Type 0} (xs : List X) (n : ℕ) (b : Bool) → nat_lt n (length xs) ≡ b → slice_get xs n ≡ option_and_then (λ (i : ℕ). slice_get xs i) (cond b (Some n) None)
by_place xs n true h = refl
by_place xs n false h = slice_get_past xs n (omega (arith, ltb-false n (length xs) h))

-- the first that passes stands at the first place of one that does
pub first_at : {X Y : Type 0} (p : Y → Bool) (f : X → Y) (xs : List X) (o : Option ℕ) → o ≡ position (λ x. p (f x)) xs → option_map f (option_and_then (λ (i : ℕ). slice_get xs i) o) ≡ find p (map f xs)
first_at {X} {Y} p f xs o h =
    let q = λ (x : X). p (f x) in
    ap (λ (k : Option ℕ). option_map f (option_and_then (λ (i : ℕ). slice_get xs i) k)) h
    ∙ ap (option_map f) (sym (find_at q xs ∙ by_place xs (position_or_len q xs) (nat_lt (position_or_len q xs) (length xs)) refl))
    ∙ sym (find-map p f xs)

push_by : (n len m k : ℕ) (b : Bool) → n ≤ len → m ≡ len + 1 → k ≡ cond (eqb n len) (len + cond b 0 1) n → cond (nat_lt k m) (Some k) None ≡ option_or (cond (nat_lt n len) (Some n) None) (if b then Some len else None)
push_by n len m k true le h e = grind (arith, nat_tests)
push_by n len m k false le h e = grind (arith, nat_tests)

position-push : {X : Type 0} (p : X → Bool) (xs : List X) (x : X) → position p (xs ++ x ∷ []) ≡ option_or (position p xs) (if p x then Some (length xs) else None)
position-push {X} p xs x =
    let le : position_or_len p xs ≤ length xs = prefix_len-le-length (λ (y : X). not (p y)) xs in
    push_by (position_or_len p xs) (length xs) (length (xs ++ x ∷ [])) (position_or_len p (xs ++ x ∷ [])) (p x) le (simp length-append (omega arith)) (position_or_len_push p xs x)

or_else : (o p : Option ℕ) → is_some o ≡ false → p ≡ option_or o p
or_else None p h = refl
or_else (Some x) p h = cc

noted_by : (name q : List ℕ) (f : List ℕ → Option ℕ) (place : ℕ) (b : Bool) → is_some (f name) ≡ false → bytes_eq name q ≡ b → cond b (Some place) (f q) ≡ option_or (f q) (if b then Some place else None)
noted_by name q f place true h e = or_else (f q) (Some place) (ap (λ (x : List ℕ). is_some (f x)) (sym ((bytes_eq-Decides name q).0 e)) ∙ h)
noted_by name q f place false h e = sym (option_or-None (f q))

-- one more name noted
pub noted : (name q : List ℕ) (f : List ℕ → Option ℕ) (place : ℕ) → is_some (f name) ≡ false → cond (bytes_eq name q) (Some place) (f q) ≡ option_or (f q) (index_if_named (Some name) place q)
noted name q f place h = noted_by name q f place (bytes_eq name q) h refl

-- one more item, and its name noted
pub placed_push : {X : Type 0} (name : X → Option (List ℕ)) (f g : List ℕ → Option ℕ) (xs : List X) (x : X) → ((q : List ℕ) → f q ≡ position (λ y. is_name q (name y)) xs)
    → ((q : List ℕ) → g q ≡ option_or (f q) (index_if_named (name x) (length xs) q)) → (q : List ℕ) → g q ≡ position (λ y. is_name q (name y)) (xs ++ x ∷ [])
placed_push {X} name f g xs x was now q =
    now q ∙ ap (λ (o : Option ℕ). option_or o (index_if_named (name x) (length xs) q)) (was q) ∙ sym (position-push (λ (y : X). is_name q (name y)) xs x)
