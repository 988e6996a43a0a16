use Rattle.std.proofs.Common.{◌≡◌, length, map, refl, sym, subst}
use Rattle.lrlex_definition.specs.RowKinds.{AreRowKinds}
use Rattle.lrlex_rules.specs.Active.{active_places}
use Rattle.lrlex_definition.specs.StateTables.{AreServed}
use Rattle.lrlex_rules.specs.RuleLists.{ArePlaced, list_in}
use Rattle.lrlex_rules.specs.RuleParts.{as_rule, as_state}
use Rattle.lrlex_definition.proofs.rule_table.RuleTable.of_parts.Goals as goal

pub invariant_of-result-clause-at_places : goal.invariant_of-result-clause-at_places
invariant_of-result-clause-at_places g c placed = subst ArePlaced c.deref.ensures.value (c.are_placed-placed.ensures.0 placed)

pub invariant_of-result-clause-listed : goal.invariant_of-result-clause-listed
invariant_of-result-clause-listed g c =
    let lists = map (λ v. v.items) c.in_ok-lists.lists.items in
    let at = c.in_ok-lists.list_at.items in
    let own = c.args.start_states.items in
    subst (λ rules. map (list_in lists) at ≡ map (λ s. active_places (map as_state own) (map (as_rule (λ x. 0)) rules) (as_state s).id) own) c.deref-3.ensures.value
    (subst (λ states. map (list_in lists) at ≡ map (λ s. active_places (map as_state states) (map (as_rule (λ x. 0)) c.deref-3.result.now) (as_state s).id) states) c.deref-2.ensures.value c.in_ok-lists.ensures.listed)

pub invariant_of-result-clause-served : goal.invariant_of-result-clause-served
invariant_of-result-clause-served g c =
    ∣ subst (λ rules. AreServed rules (map (λ v. v.items) c.in_ok-lists.lists.items) c.in_ok-tables.tables.items) c.deref-5.ensures.value
    (subst (λ lists. AreServed c.deref-5.result.now (map (λ v. v.items) lists) c.in_ok-tables.tables.items) c.deref-6.ensures.value c.in_ok-tables.ensures.served) ∣₁

pub invariant_of-result-clause-by_rows : goal.invariant_of-result-clause-by_rows
invariant_of-result-clause-by_rows g c =
    let rows = c.in_ok-row_kinds.row_kinds.items in
    ∣ subst (λ rules. AreRowKinds rules (map (λ v. v.items) c.in_ok-lists.lists.items) c.in_ok-tables.chains.items rows) c.deref-8.ensures.value
    (subst (λ lists. AreRowKinds c.deref-8.result.now (map (λ v. v.items) lists) c.in_ok-tables.chains.items rows) c.deref-9.ensures.value
    (subst (λ chains. AreRowKinds c.deref-8.result.now (map (λ v. v.items) c.deref-9.result.now) chains rows) c.deref-10.ensures.value c.in_ok-row_kinds.ensures)) ∣₁

pub chained_tables-requires : goal.chained_tables-requires
chained_tables-requires g c placed = subst ArePlaced (sym c.deref-4.ensures.value) (subst ArePlaced c.deref.ensures.value (c.are_placed-placed.ensures.0 placed))

pub invariant_of-result-clause-distinct : goal.invariant_of-result-clause-distinct
invariant_of-result-clause-distinct g c = c.requires

pub invariant_of-result-clause-each : goal.invariant_of-result-clause-each
invariant_of-result-clause-each g c = subst (λ lists. length c.in_ok-tables.tables.items ≡ length lists) c.deref-6.ensures.value c.in_ok-tables.ensures.each

pub invariant_of-result-clause-chained : goal.invariant_of-result-clause-chained
invariant_of-result-clause-chained g c = c.in_ok-tables.ensures.chained

pub invariant_of-result-clause-within : goal.invariant_of-result-clause-within
invariant_of-result-clause-within g c = c.in_ok-lists.ensures.within

pub returns-clause-paid : goal.returns-clause-paid
returns-clause-paid g c = c.in_ok-tables.ensures.paid

pub returns-clause-rules : goal.returns-clause-rules
returns-clause-rules g c = refl

pub returns-clause-states : goal.returns-clause-states
returns-clause-states g c = refl

pub returns-clause-flags : goal.returns-clause-flags
returns-clause-flags g c = refl
