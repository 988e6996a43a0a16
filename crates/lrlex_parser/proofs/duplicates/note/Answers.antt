use Rattle.std.proofs.Common.{◌≡◌, ◌∙◌, ℕ, Bool, true, false, List, [], ◌∷◌, Option, Some, eqb, refl, sym, ap, subst, cond, arith}
use Rattle.std.specs.Prelude.{◌&&◌, if◌then◌else◌}
use Rattle.std.specs.declared.cmp.Ordering.{Ordering}
use Rattle.std.specs.declared.cmp.Ordering.TheVariants.{Less, Equal, Greater}
use Rattle.std.specs.Ordering.{nat_cmp, ordering_then, is_eq}
use Rattle.std.specs.Map.{lookup}
use Rattle.std.specs.BTreeMap.{BTreeMap, get}
use Rattle.std.proofs.lemmas.Bool.Decides.{nat_tests}
use Rattle.lrlex_base.specs.Spans.{Span, span, as_span, same_span}
use Rattle.lrlex_parser.specs.declared.duplicates.Named.{Named}
use Rattle.lrlex_parser.specs.declared.duplicates.Named.TheVariants as names
use Rattle.lrlex_parser.specs.contracts.duplicates.NamedOrd.TheImpl as named_ord
use Rattle.lrlex_parser.specs.Event.{Subject}
use Rattle.lrlex_parser.specs.Event.Subject.{StateName, RuleName}
use Rattle.lrlex_parser.specs.Outcome.{same_subject}
use Rattle.lrlex_parser.specs.LexErrorKind.{as_subject}
use Rattle.lrlex_parser.specs.Duplicates.{is_original, fault_index}
use Rattle.lrlex_parser.proofs.duplicates.note.Goals as goal

-- the order of the keys
abbrev key_cmp : Named × ℕ × ℕ → Named × ℕ × ℕ → Ordering
key_cmp x y = ordering_then (ordering_then ((named_ord.ghosts).cmp x.0 y.0) (nat_cmp x.1 y.1)) (nat_cmp x.2 y.2)

then_equal : (a b : Ordering) → is_eq (ordering_then a b) ≡ (is_eq a && is_eq b)
then_equal Less b = refl
then_equal Equal b = refl
then_equal Greater b = refl

same_numbers : (a b : ℕ) → is_eq (nat_cmp a b) ≡ eqb a b
same_numbers a b = grind (arith, nat_tests)

same_named : (a b : Named) → is_eq ((named_ord.ghosts).cmp a b) ≡ same_subject (as_subject a) (as_subject b)
same_named names.State names.State = refl
same_named names.State names.Rule = refl
same_named names.Rule names.State = refl
same_named names.Rule names.Rule = refl

and_assoc : (a b c : Bool) → ((a && b) && c) ≡ (a && (b && c))
and_assoc true b c = refl
and_assoc false b c = refl

-- the keys that are equal to that of an original
key_is : (a : Named) (s e : ℕ) (k : Named × ℕ × ℕ) → is_eq (key_cmp (a, s, e) k) ≡ is_original (as_subject a) (span s e) k
key_is a s e k =
    then_equal (ordering_then ((named_ord.ghosts).cmp a k.0) (nat_cmp s k.1)) (nat_cmp e k.2)
    ∙ ap (λ (b : Bool). b && is_eq (nat_cmp e k.2)) (then_equal ((named_ord.ghosts).cmp a k.0) (nat_cmp s k.1))
    ∙ ap (λ (b : Bool). (b && is_eq (nat_cmp s k.1)) && is_eq (nat_cmp e k.2)) (same_named a k.0)
    ∙ ap (λ (b : Bool). (same_subject (as_subject a) (as_subject k.0) && b) && is_eq (nat_cmp e k.2)) (same_numbers s k.1)
    ∙ ap (λ (b : Bool). (same_subject (as_subject a) (as_subject k.0) && eqb s k.1) && b) (same_numbers e k.2)
    ∙ and_assoc (same_subject (as_subject a) (as_subject k.0)) (eqb s k.1) (eqb e k.2)

lookup_same : {K X : Type 0} (t u : K → Bool) (es : List (K × X)) → ((k : K) → t k ≡ u k) → lookup t es ≡ lookup u es
lookup_same t u [] h = refl
lookup_same {K} {X} t u (e ∷ es) h = ap (λ (b : Bool). cond b (Some e.1) (lookup t es)) (h e.0) ∙ ap (λ (o : Option X). cond (u e.0) (Some e.1) o) (lookup_same t u es h)

place_is : (m : BTreeMap (Named × ℕ × ℕ) ℕ) (a : Named) (o : Span) → get key_cmp m (a, o.start, o.end) ≡ fault_index m (as_subject a) o
place_is m a o = lookup_same (λ k. is_eq (key_cmp (a, o.start, o.end) k)) (is_original (as_subject a) o) m.entries (key_is a o.start o.end)

module _ (old new : BTreeMap (Named × ℕ × ℕ) ℕ) (a : Named) (original : Span) (place : ℕ) (h : (q : Named × ℕ × ℕ) → get key_cmp new q ≡ cond (is_eq (key_cmp (a, original.start, original.end) q)) (Some place) (get key_cmp old q)) where
  noted_at : (b : Named) (o : Span) → fault_index new (as_subject b) o ≡ (if same_subject (as_subject a) (as_subject b) && same_span original o then Some place else fault_index old (as_subject b) o)
  noted_at b o =
      sym (place_is new b o) ∙ h (b, o.start, o.end)
      ∙ ap (λ (t : Bool). cond t (Some place) (get key_cmp old (b, o.start, o.end))) (key_is a original.start original.end (b, o.start, o.end))
      ∙ ap (λ (p : Option ℕ). cond (same_subject (as_subject a) (as_subject b) && same_span original o) (Some place) p) (place_is old b o)

  noted : (s : Subject) (o : Span) → fault_index new s o ≡ (if same_subject (as_subject a) s && same_span original o then Some place else fault_index old s o)
  noted StateName o = noted_at names.State o
  noted RuleName o = noted_at names.Rule o

pub returns-clause-noted : goal.returns-clause-noted
returns-clause-noted c =
    let key : span c.start.result c.end.result ≡ as_span c.args.original = ap (λ (n : ℕ). span n c.end.result) c.start.ensures ∙ ap (span (as_span c.args.original).start) c.end.ensures in
    let P : Span → Type 0 = λ x. (s : Subject) (o : Span) → fault_index c.insert.new.self s o ≡ (if same_subject (as_subject c.args.named) s && same_span x o then Some c.args.place else fault_index c.args.places.now s o) in
    subst P key (noted c.args.places.now c.insert.new.self c.args.named (span c.start.result c.end.result) c.args.place c.in_ok-insert.ensures.updates.0)
