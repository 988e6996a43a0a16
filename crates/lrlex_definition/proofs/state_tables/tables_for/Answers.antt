use Rattle.std.proofs.Common.{rules, ◌≡◌, [], map, length, option_map, refl, sym, ap, ◌∙◌, subst, arith}
use Rattle.std.proofs.lemmas.Grind.{common_steps}
use Rattle.std.proofs.lemmas.List.Sums.{sum_by_push}
use Rattle.std.proofs.lemmas.List.{length_push}
use Rattle.std.proofs.lemmas.Option.{slice_get-map, slice_get_read, get_or_from_slice_get}
use Rattle.lrlex_rules.specs.RuleParts.{as_rule}
use Rattle.lrlex_definition.specs.StateTables.{AreServed, patterns_on, pattern_in}
use Rattle.lrlex_rules.specs.RuleLists.{list_in}
use Rattle.lrlex_table.specs.Rows.{cached_rows, tables_rows, rows_held}
use Rattle.lrlex_table.specs.Tables.{AreCached, AreTablesOf}
use Rattle.lrlex_table.proofs.AheadLemmas.{written_back}
use Rattle.lrlex_definition.proofs.ServedLemmas.{single_back, served_more}
use Rattle.lrlex_definition.proofs.state_tables.tables_for.Goals as goal

pub lists-init : goal.lists-init
lists-init g c = record {
  made = search rules;
  served = search rules;
  paid = grind (arith, common_steps);
  single = c.in_ok-singles.ensures.cached (pattern_in (map (as_rule (λ _. 0)) c.args.rules.now));
}

pub lists-preserved : goal.lists-preserved
lists-preserved g c =
    let of = c.args.lists.now in
    let lists = map (λ v. v.items) of in
    let i = c.lists.index in
    let inv = c.lists.invariant in
    let own = map (as_rule (λ _. 0)) c.args.rules.now in
    let pattern = pattern_in own in
    let t = c.in_ok-made.made in
    let tables = c.lists.tables.items in
    let single : AreCached pattern c.deref_mut.result.now = subst (AreCached pattern) (sym c.deref_mut.ensures.value) inv.single in
    let held = c.index-lists-index.result in
    let read = slice_get_read of (length of) i held refl c.lists-test.true c.index-lists-index.is in
    let here : list_in lists i ≡ c.as_slice-places.result.now =
    get_or_from_slice_get lists i held.items [] (slice_get-map (λ v. v.items) of i ∙ ap (option_map (λ v. v.items)) read) ∙ sym c.as_slice-places.ensures.value in
    let made : AreTablesOf (patterns_on own (list_in lists (length tables))) t =
    subst (λ places. AreTablesOf (patterns_on own places) t) (sym here ∙ ap (list_in lists) (sym inv.made)) (c.in_ok-made.ensures.tables single) in
    record {
      made = omega (arith, ap length c.in_ok-push.ensures.items, length_push tables t, inv.made);
      served = subst (AreServed c.args.rules.now lists) (sym c.in_ok-push.ensures.items) (served_more c.args.rules.now lists tables t inv.served made);
      paid =
          omega (
            arith,
            sum_by_push tables_rows tables t,
            ap rows_held c.in_ok-push.ensures.items,
            ap cached_rows (written_back c.tables_on.new.singles c.lists.singles.items c.lists.singles.len (omega (arith, c.lists.singles.ok.0)) (c.tables_on.auto.singles ∙ ap length c.deref_mut.ensures.value)),
            ap cached_rows c.deref_mut.ensures.value,
            inv.paid,
            c.in_ok-made.ensures.paid,
          );
      single = single_back pattern c.tables_on.new.singles c.lists.singles.items _ (c.in_ok-made.ensures.kept single) inv.single;
    }

pub returns-clause-served : goal.returns-clause-served
returns-clause-served g c = c.lists.invariant.served

pub returns-clause-each : goal.returns-clause-each
returns-clause-each g c = omega (arith, c.lists.invariant.made, c.lists-test.false)
