-- What a kind says of its rule.
use Rattle.std.proofs.Common.{◌≡◌, ℕ, ◌<◌, true, false, not, ◌&&◌, length, slice_get, Option, None, Some, is_some, is_none, option_map, if◌then◌else◌, refl, sym, ap, ◌∙◌, subst, inl, inr, arith, true≢false}
use Rattle.std.proofs.lemmas.Option.{slice_get_cases}
use Rattle.lrlex_rules.specs.Definition.{Rule}
use Rattle.lrlex_rules.specs.RuleParts.{RuleParts, as_rule}
use Rattle.lrlex_rules.specs.Active.{rule_at}
use Rattle.lrlex_rules.specs.Kinds.{kind_of, IsPlain}
use Rattle.lrlex_definition.specs.RuleTable.{definition_by}
use Rattle.lrlex_rules.specs.declared.kinds.Kind.{Kind}
use Rattle.lrlex_definition.specs.declared.rule_table.RuleTable.{RuleTable}
use Rattle.lrlex_definition.proofs.Parted.{rule_read}

gives_as : {S A : Type 0} (number : S → ℕ) (name : Option A) (id : Option S) →
    (if is_some name then option_map number id else None) ≡ option_map number (if is_some name then id else None)
gives_as number None id = refl
gives_as number (Some n) id = refl

has_id : {S A B : Type 0} (number : S → ℕ) (name : Option A) (id : Option S) (target : Option B) →
    (is_none target && not (is_some name && is_none id)) ≡ true → (is_some name && is_none (option_map number id)) ≡ false
has_id number None id target e = refl
has_id number (Some n) (Some i) target e = refl
has_id number (Some n) None None e = absurd (true≢false (sym e))
has_id number (Some n) None (Some t) e = absurd (true≢false (sym e))

no_target : {S A B : Type 0} (name : Option A) (id : Option S) (target : Option B) → (is_none target && not (is_some name && is_none id)) ≡ true → is_none target ≡ true
no_target name id None e = refl
no_target name id (Some t) e = absurd (true≢false (sym e))

none_of : {A : Type 0} (o : Option A) → is_none o ≡ true → o ≡ None
none_of None e = refl
none_of (Some x) e = absurd (true≢false (sym e))

of_rule : {S : Type 0} (number : S → ℕ) (r : RuleParts S) (k : Kind S) → k ≡ kind_of r → k.plain ≡ true → IsPlain number k.id (as_rule number r)
of_rule number r k is plain =
    let here : (is_none r.target && not (is_some r.name && is_none r.tok_id)) ≡ true = sym (ap (λ (x : Kind _). x.plain) is) ∙ plain in
    record {
      has_id = has_id number r.name r.tok_id r.target here;
      gives = gives_as number r.name r.tok_id ∙ sym (ap (λ (x : Kind _). option_map number x.id) is);
      target = no_target r.name r.tok_id r.target here;
    }

-- what the kind of the rule at a place says of it, where the kind is plain
pub plain_at : {S : Type 0} (number : S → ℕ) (d : RuleTable S) (i : ℕ) (k : Kind S) → i < length d.rules.items → ((r : RuleParts S) → slice_get d.rules.items i ≡ Some r → k ≡ kind_of r) → k.plain ≡ true →
    IsPlain number k.id (rule_at (definition_by number d) i)
plain_at number d i k lt is plain = elim (slice_get_cases d.rules.items i).1 [
  | inl known ↦ subst (IsPlain number k.id) (sym (rule_read number d i known.0 lt (sym known.3))) (of_rule number known.0 k (is known.0 known.2) plain)
  | inr past ↦ absurd (omega (arith, past.0, lt))
]

-- a plain rule has no target
pub no_target_of : {S : Type 0} (number : S → ℕ) (id : Option S) (r : Rule) → IsPlain number id r → r.target ≡ None
no_target_of number id r is = none_of r.target is.target
