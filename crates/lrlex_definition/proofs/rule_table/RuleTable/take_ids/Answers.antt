use Rattle.std.proofs.Common.{map, length, drop, sym, ap, ◌∙◌, subst, arith}
use mathlib.Core.Logic.{∥∥₁_map}
use Rattle.lrlex_definition.specs.StateTables.{AreServed}
use Rattle.lrlex_definition.proofs.ServedLemmas.{served_with_ids}
use Rattle.lrlex_rules.specs.Active.{active_places}
use Rattle.lrlex_rules.specs.Ids.{ids_of, HaveDistinctIds}
use Rattle.lrlex_rules.specs.RuleParts.{as_rule, as_state}
use Rattle.lrlex_definition.specs.RowKinds.{AreRowKinds}
use Rattle.lrlex_rules.proofs.IdLemmas.{lists_after}
use Rattle.lrlex_rules.proofs.ViewLemmas.{taken_back}
use Rattle.lrlex_definition.proofs.rule_table.RuleTable.take_ids.Goals as goal

pub invariant_of-self : goal.invariant_of-self
invariant_of-self g c =
    let table = c.args.self.now in
    let states = map as_state table.start_states.items in
    let new = c.take_ids.new.rules in
    let rows = c.set_row_kinds.new.rows in
    let lists = map (λ v. v.items) table.lists.items in
    let back = taken_back new (drop (length new) table.rules.items) table.rules.len
    (omega (arith, c.take_ids.auto.rules, c.as_mut_slice.ensures.len)) in
    record {
      distinct = λ is. subst HaveDistinctIds c.deref.ensures.value (c.have_own_ids-self.ensures.distinct is);
      at_places = table.at_places;
      listed = table.listed
          ∙ lists_after g.S.Numbered.number (ids_of g.S.Numbered.number c.args.ids.now) states table.rules.items new
          (rw c.as_mut_slice.ensures.value at c.take_ids.ensures) table.start_states.items
          ∙ ap (λ rules. map (λ s. active_places states (map (as_rule (λ x. 0)) rules) s.id) table.start_states.items) (sym back);
      served = subst (λ rules. ∥ AreServed rules (map (λ v. v.items) table.lists.items) table.tables.items ∥₁) (sym back)
          (∥∥₁_map table.served (served_with_ids g.S.Numbered.number (ids_of g.S.Numbered.number c.args.ids.now) table.rules.items new
          (rw c.as_mut_slice.ensures.value at c.take_ids.ensures) (map (λ v. v.items) table.lists.items) table.tables.items));
      each = table.each;
      within = table.within;
      chained = table.chained;
      by_rows = ∥∥₁_map table.by_rows (λ are.
          subst (AreRowKinds _ lists table.chains.items) (sym (taken_back rows (drop (length rows) table.row_kinds.items) table.row_kinds.len (omega (arith, c.set_row_kinds.auto.rows, c.as_mut_slice-2.ensures.len))))
          (subst (λ rules. AreRowKinds rules lists table.chains.items rows) c.deref-2.ensures.value ((rw c.as_mut_slice-2.ensures.value at c.set_row_kinds.ensures) table.rules.items lists table.chains.items are)));
    }
