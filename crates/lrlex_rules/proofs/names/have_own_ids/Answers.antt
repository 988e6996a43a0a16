use Rattle.std.proofs.Common.{◌≡◌, slice_get, refl, sym, ap, ◌∙◌, inl, inr, true≢false, arith}
use Rattle.std.proofs.lemmas.Bool.{cases_lt}
use Rattle.std.proofs.lemmas.Option.{slice_get_read, slice_get_within, same_Some}
use Rattle.lrlex_rules.proofs.names.have_own_ids.Goals as goal

pub rules-init : goal.rules-init
rules-init g c i r lt at = absurd (omega (arith, lt))

pub rules-preserved : goal.rules-preserved
rules-preserved g c i r lt at = elim (cases_lt i c.rules.index) [
  | inl before ↦ c.rules.invariant i r before at
  | inr from ↦
      let here : i ≡ c.rules.index = omega (arith, lt, from) in
      let read = slice_get_read c.args.rules.now _ c.rules.index c.index-rules-index.result refl c.rules-test.true c.index-rules-index.is in
      let same : r ≡ c.index-rules-index.result = same_Some _ _ (sym at ∙ ap (slice_get c.args.rules.now) here ∙ read) in
      λ id has.
      let own = c.has_own_id.ensures.0 c.if-not-has_own_id.false id (ap (λ x. x.tok_id) (sym same) ∙ has) in
      (own.0 ∙ sym here, omega (arith, own.1, here))
]

pub returns-then-not-has_own_id-clause-own : goal.returns-then-not-has_own_id-clause-own
returns-then-not-has_own_id-clause-own g c =
    let read = slice_get_read c.args.rules.now _ c.rules.index c.index-rules-index.result refl c.rules-test.true c.index-rules-index.is in
    (λ is. absurd (true≢false (sym is)), λ own. absurd (true≢false (sym (c.has_own_id.ensures.1 (own c.rules.index _ read)) ∙ c.if-not-has_own_id.true)))

pub returns-clause-own : goal.returns-clause-own
returns-clause-own g c = (λ _ i r at. c.rules.invariant i r (omega (arith, c.rules-test.false, slice_get_within c.args.rules.now i r at)) at, λ own. refl)

pub returns-clause-distinct : goal.returns-clause-distinct
returns-clause-distinct g c _ i j r s id at other has same =
    sym (c.rules.invariant i r (omega (arith, c.rules-test.false, slice_get_within c.args.rules.now i r at)) at id has).0
    ∙ (c.rules.invariant j s (omega (arith, c.rules-test.false, slice_get_within c.args.rules.now j s other)) other id same).0
