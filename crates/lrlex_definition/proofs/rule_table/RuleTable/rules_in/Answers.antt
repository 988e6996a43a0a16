use Rattle.std.proofs.Common.{◌≡◌, ◌<◌, ◌==◌, Some, [], map, length, option_map, refl, sym, ap, ◌∙◌, subst, arith}
use Rattle.std.proofs.lemmas.List.{length-map}
use Rattle.std.proofs.lemmas.Option.{slice_get-map, slice_get_read, get_or_from_slice_get}
use Rattle.std.specs.List.{position}
use Rattle.lrlex_rules.specs.RuleParts.{as_rule, as_state}
use Rattle.lrlex_rules.specs.Active.{active_places}
use Rattle.lrlex_rules.specs.RuleLists.{list_in}
use Rattle.lrlex_rules.proofs.ViewLemmas.{position_within, list_any-map}
use Rattle.lrlex_definition.proofs.ServedLemmas.{active_at, first_place, tables_at_state}
use Rattle.lrlex_rules.proofs.PlaceLemmas.{active_places-by}
use Rattle.lrlex_definition.proofs.ServedLemmas.{untabled_here}
use Rattle.lrlex_definition.proofs.rule_table.RuleTable.rules_in.Goals as goal

pub returns-clause-rules : goal.returns-clause-rules
returns-clause-rules g c =
    let d = c.args.self.now in
    let i = c.unwrap_or-index.result in
    let j = c.index-list.result.now in
    let states = d.start_states.items in
    let found : Some i ≡ position (λ s. (as_state s).id == c.args.id) states =
    first_place (λ s. (as_state s).id == c.args.id) states _ i
    (sym (list_any-map as_state (λ s. s.id == c.args.id) states) ∙ c.requires)
    (rw c.deref.ensures.value at c.position_of.ensures) c.unwrap_or-index.ensures in
    let within = position_within (λ s. (as_state s).id == c.args.id) states i found in
    let lists = map (λ v. v.items) d.lists.items in
    let has : i < length d.list_at.items =
    omega (arith, ap length d.listed, length-map d.list_at.items (list_in lists), length-map states (λ s. active_places (map as_state states) (map (as_rule (λ x. 0)) d.rules.items) (as_state s).id)) in
    let among : j < length d.lists.items = subst (λ n. n < length d.lists.items) (sym c.index-list.ensures) (d.within i j has) in
    let inside : j < length d.tables.items = omega (arith, d.each) in
    let at = slice_get_read d.list_at.items (length d.list_at.items) i j refl has c.index-list.ensures in
    let held = c.index-active.result.now in
    let kept = slice_get_read d.lists.items (length d.lists.items) j held refl among c.index-active.ensures in
    let places : list_in lists j ≡ held.items = get_or_from_slice_get lists j held.items [] (slice_get-map (λ v. v.items) d.lists.items j ∙ ap (option_map (λ v. v.items)) kept) in
    let are = slice_get_read d.tables.items (length d.tables.items) j c.index-tables.result.now refl inside c.index-tables.ensures in
    record {
      active = c.deref-2.ensures.value ∙ sym places ∙ active_at lists d.list_at.items states d.rules.items i j c.args.id d.listed found at
          ∙ active_places-by g.S.Numbered.number (map as_state states) d.rules.items c.args.id;
      tables = tables_at_state g.S.Numbered.number lists d.tables.items d.list_at.items d.start_states.items d.rules.items i j c.args.id c.index-tables.result.now
          d.listed d.served found at are;
      list = are;
      own = c.deref-2.ensures.value ∙ sym places;
      untabled = untabled_here d c.args.id i j c.index-tables.result.now found at are;
    }
