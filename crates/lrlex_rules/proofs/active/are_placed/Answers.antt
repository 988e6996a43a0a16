use Rattle.std.proofs.Common.{◌≡◌, slice_get, refl, sym, ap, ◌∙◌, inl, inr, true≢false, arith}
use Rattle.std.proofs.lemmas.Bool.{cases_lt}
use Rattle.std.proofs.lemmas.Option.{slice_get_read, slice_get_within, same_Some}
use Rattle.lrlex_rules.specs.RuleParts.{as_state}
use Rattle.lrlex_rules.proofs.active.are_placed.Goals as goal

pub states-init : goal.states-init
states-init c i s lt at = absurd (omega (arith, lt))

pub states-preserved : goal.states-preserved
states-preserved c i s lt at = elim (cases_lt i c.states.index) [
  | inl before ↦ c.states.invariant i s before at
  | inr from ↦
      let here : i ≡ c.states.index = omega (arith, lt, from) in
      let read = slice_get_read c.args.states.now _ c.states.index c.index-states-index.result refl c.states-test.true c.index-states-index.is in
      let same : s ≡ c.index-states-index.result = same_Some _ _ (sym at ∙ ap (slice_get c.args.states.now) here ∙ read) in
      ap (λ x. (as_state x).id) same ∙ sym c.id.ensures ∙ c.if-id-index.false ∙ sym here
]

pub returns-then-id-index : goal.returns-then-id-index
returns-then-id-index c =
    let read = slice_get_read c.args.states.now _ c.states.index c.index-states-index.result refl c.states-test.true c.index-states-index.is in
    (λ is. absurd (true≢false (sym is)), λ placed. absurd (c.if-id-index.true (c.id.ensures ∙ placed c.states.index _ read)))

pub returns : goal.returns
returns c = (λ _ i s at. c.states.invariant i s (omega (arith, c.states-test.false, slice_get_within c.args.states.now i s at)) at, λ placed. refl)
