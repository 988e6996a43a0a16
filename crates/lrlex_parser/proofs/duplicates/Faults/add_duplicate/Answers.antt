use Rattle.std.proofs.Common.{◌≡◌, ◌∙◌, ◌<◌, ◌++◌, ◌∷◌, [], ℕ, Bool, true, List, Option, Some, None, length, get_or, map, sym, ap, subst, arith}
use Rattle.std.specs.Prelude.{◌&&◌, is_ok, if◌then◌else◌}
use Rattle.std.proofs.lemmas.List.{map_push, get_or_default}
use Rattle.lrlex_base.specs.Spans.{Span, as_span, same_span}
use Rattle.lrlex_base.specs.declared.spans.Span.{Span as TheSpan}
use Rattle.lrlex_parser.specs.declared.faults.LexBuildError.{LexBuildError}
use Rattle.lrlex_parser.specs.declared.faults.LexErrorKind.{LexErrorKind}
use Rattle.lrlex_parser.specs.Event.{Subject, FaultKind, fault}
use Rattle.lrlex_parser.specs.Outcome.{kind_of, same_subject}
use Rattle.lrlex_parser.specs.LexErrorKind.{as_kind, as_subject}
use Rattle.lrlex_parser.specs.LexBuildResult.{as_fault}
use Rattle.lrlex_parser.specs.LexBuildError.{fault_kind, fault_spans}
use Rattle.lrlex_parser.specs.Duplicates.{is_fault_of, is_place, fault_index, IsOnlyPlace}
use Rattle.lrlex_parser.proofs.Extends.{self_same, tests, only_set, grown, extends_known, extends_new, places_more}
use Rattle.lrlex_parser.proofs.duplicates.Faults.add_duplicate.Goals as goal

pub index_mut-fault-requires : goal.index_mut-fault-requires
index_mut-fault-requires c =
    let within : c.in-Some.place < length c.args.self.now.list.items = (c.args.self.now.placed (as_subject c.args.named) (as_span c.args.original)).0 c.in-Some.place (sym c.in-Some.ensures) in
    omega (arith, c.args.self.now.list.ok)

-- behind a place that was found stands the fault of the original
found_there : (s : Subject) (o : Span) (place : Option ℕ) (list : List LexBuildError) (i : ℕ) (x : LexBuildError) → IsOnlyPlace (tests s o) place list → Some i ≡ place → x ≡ get_or list i x → i < length list → tests s o x ≡ true
found_there s o place list i x h at is lt = ap (tests s o) is ∙ h.1 i x lt ∙ ap (λ (p : Option ℕ). is_place p i) (sym at) ∙ self_same i

pub invariant_of-self : goal.invariant_of-self
invariant_of-self c =
    let list = c.args.self.now.list.items in
    let i = c.in-Some.place in
    let s = as_subject c.args.named in
    let o = as_span c.args.original in
    let x : LexBuildError = c.index_mut-fault.result.now in
    let y : LexBuildError = record { kind = x.kind; spans = c.push.new.self } in
    let within : i < length list = (c.args.self.now.placed s o).0 i (sym c.in-Some.ensures) in
    let its : tests s o x ≡ true = found_there s o (fault_index c.args.self.now.places s o) list i x (c.args.self.now.placed s o) c.in-Some.ensures c.index_mut-fault.ensures.value within in
    record {
      placed = λ s' o'. only_set (tests s' o') (fault_index c.args.self.now.places s' o') list i y (c.args.self.now.placed s' o')
          (ap (λ (xs : List TheSpan). is_fault_of s' o' (fault (as_kind x.kind) (map as_span xs))) c.push.ensures.items
          ∙ grown s' s o' o (as_kind x.kind) x.spans.items c.args.found (is_ok c.push.result) its
          ∙ ap (tests s' o') (c.index_mut-fault.ensures.value ∙ get_or_default list i x y within));
    }

pub returns-in-Some : goal.returns-in-Some
returns-in-Some c =
    let list = c.args.self.now.list.items in
    let s = as_subject c.args.named in
    let o = as_span c.args.original in
    let x : LexBuildError = c.index_mut-fault.result.now in
    let P : Option ℕ → Type 0 = λ place. IsOnlyPlace (tests s o) place list in
    extends_known s o (as_span c.args.found) list c.in-Some.place x _ (subst P (sym c.in-Some.ensures) (c.args.self.now.placed s o)) c.index_mut-fault.ensures.value
    (ap (λ (xs : List TheSpan). fault (as_kind x.kind) (map as_span xs)) c.in_ok-push.ensures.items ∙ ap (fault (as_kind x.kind)) (map_push as_span x.spans.items c.args.found))

pub invariant_of-self-in-Break-branch-3 : goal.invariant_of-self-in-Break-branch-3
invariant_of-self-in-Break-branch-3 c = record {
  placed = λ s o.
      let P : List LexBuildError → Type 0 = λ xs. IsOnlyPlace (tests s o) (fault_index c.args.self.now.places s o) xs in
      subst P (sym c.in_err-reserve.ensures.items) (c.args.self.now.placed s o);
}

pub invariant_of-self-in-Break-branch-4 : goal.invariant_of-self-in-Break-branch-4
invariant_of-self-in-Break-branch-4 c = record {
  placed = λ s o.
      let P : List LexBuildError → Type 0 = λ xs. IsOnlyPlace (tests s o) (fault_index c.args.self.now.places s o) xs in
      let Q : Option ℕ → Type 0 = λ place. IsOnlyPlace (tests s o) place c.reserve.new.self.items in
      subst Q (sym (c.in_err-note.ensures.same s o)) (subst P (sym c.in_ok-reserve.ensures.items) (c.args.self.now.placed s o));
}

-- the new fault
made : (s : Subject) (o found : Span) (x : LexBuildError) (kind : LexErrorKind) (items : List TheSpan) → fault_kind x ≡ kind → as_kind kind ≡ kind_of s → fault_spans x ≡ items → map as_span items ≡ o ∷ found ∷ [] → as_fault x ≡ fault (kind_of s) (o ∷ found ∷ [])
made s o found x kind items k ks sp ps =
    ap (λ (y : LexErrorKind). fault (as_kind y) (map as_span (fault_spans x))) k ∙ ap (λ (y : FaultKind). fault y (map as_span (fault_spans x))) ks
    ∙ ap (λ (ys : List TheSpan). fault (kind_of s) (map as_span ys)) sp ∙ ap (fault (kind_of s)) ps

pub invariant_of-self-2 : goal.invariant_of-self-2
invariant_of-self-2 c =
    let list = c.reserve.new.self.items in
    let s = as_subject c.args.named in
    let o = as_span c.args.original in
    let x : LexBuildError = c.new-fault.result in
    let ok : is_ok c.push-2.result ≡ true = c.push-2.ensures.succeeds (omega (arith, c.in_ok-reserve.ensures.ok)) in
    let items : c.push-2.new.self.items ≡ list ++ x ∷ [] = c.push-2.ensures.items ∙ ap (λ (b : Bool). if b then list ++ x ∷ [] else list) ok in
    let was : (s' : Subject) (o' : Span) → IsOnlyPlace (tests s' o') (fault_index c.args.self.now.places s' o') list = λ s' o'.
    let P : List LexBuildError → Type 0 = λ xs. IsOnlyPlace (tests s' o') (fault_index c.args.self.now.places s' o') xs in
    subst P (sym c.in_ok-reserve.ensures.items) (c.args.self.now.placed s' o') in
    let none : fault_index c.args.self.now.places s o ≡ None = sym c.fault_index.ensures ∙ c.in_default.is in
    let is : as_fault x ≡ fault (kind_of s) (o ∷ as_span c.args.found ∷ []) = made s o (as_span c.args.found) x c.kind.result c.in_ok-spans.spans.items c.new-fault.ensures.kind c.kind.ensures c.new-fault.ensures.spans (ap (map as_span) c.in_ok-spans.ensures.items) in
    record {
      placed = λ s' o'.
          let P : List LexBuildError → Type 0 = λ xs. IsOnlyPlace (tests s' o') (fault_index c.note.new.places s' o') xs in
          subst P (sym items) (places_more s o (as_span c.args.found) (λ s' o'. fault_index c.args.self.now.places s' o') (λ s' o'. fault_index c.note.new.places s' o') list x was none is
          (λ s' o'. c.in_ok-note.ensures.noted s' o' ∙ ap (λ (n : ℕ). if same_subject s s' && same_span o o' then Some n else fault_index c.args.self.now.places s' o') (ap (length {A = LexBuildError}) c.as_slice.ensures.value)) s' o');
    }

pub returns : goal.returns
returns c =
    let list = c.args.self.now.list.items in
    let s = as_subject c.args.named in
    let o = as_span c.args.original in
    let x : LexBuildError = c.new-fault.result in
    let none : fault_index c.args.self.now.places s o ≡ None = sym c.fault_index.ensures ∙ c.in_default.is in
    let is : as_fault x ≡ fault (kind_of s) (o ∷ as_span c.args.found ∷ []) = made s o (as_span c.args.found) x c.kind.result c.in_ok-spans.spans.items c.new-fault.ensures.kind c.kind.ensures c.new-fault.ensures.spans (ap (map as_span) c.in_ok-spans.ensures.items) in
    let P : Option ℕ → Type 0 = λ place. IsOnlyPlace (tests s o) place list in
    ap (map as_fault) (c.in_ok-push-2.ensures.items ∙ ap (λ (xs : List LexBuildError). xs ++ x ∷ []) c.in_ok-reserve.ensures.items)
    ∙ extends_new s o (as_span c.args.found) list x (subst P none (c.args.self.now.placed s o)) is
