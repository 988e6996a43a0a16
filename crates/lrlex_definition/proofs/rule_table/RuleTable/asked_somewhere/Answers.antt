use Rattle.std.proofs.Common.{◌≡◌, ◌<◌, ◌||◌, ℕ, Vec, Global, [], Some, false, get_or, length, map, option_map, unwrap_or, sym, ap, ap₂, ◌∙◌, subst, arith}
use Rattle.std.specs.List.{list_any}
use Rattle.std.proofs.lemmas.List.{with_items_is, get_or-map, get_or_default, take_all}
use Rattle.std.proofs.lemmas.Option.{slice_get-get_or}
use Rattle.lrlex_table.specs.declared.tables.Tables.{Tables}
use Rattle.lrlex_definition.specs.Somewhere.{stands_at, untabled_in}
use Rattle.lrlex_rules.specs.RuleLists.{list_in}
use Rattle.lrlex_definition.proofs.MarkLemmas.{mark_all_more}
use Rattle.lrlex_definition.proofs.rule_table.RuleTable.asked_somewhere.Goals as goal

pub states-preserved : goal.states-preserved
states-preserved g c =
    let t = c.args.self.now in
    let lists = map (λ (v : Vec ℕ Global). v.items) t.lists.items in
    let at = c.states.at in
    let j = c.index-list.result.now in
    let old = c.states.marks.items in
    let value = c.deref_mut.ensures.value in
    let new = c.mark_at.new.marks in
    let len : length new ≡ c.states.marks.len = c.mark_at.ensures.len ∙ c.deref_mut.ensures.len in
    let lt : at < length t.list_at.items = omega (arith, c.states-test.true, c.len-at-end.ensures, t.list_at.ok.0) in
    let is : j ≡ get_or t.list_at.items at 0 = c.index-list.ensures ∙ get_or_default t.list_at.items at j 0 lt in
    let within : j < length t.lists.items = subst (λ n. n < length t.lists.items) (sym c.index-list.ensures) (t.within at j lt) in
    let places : list_in lists j ≡ c.deref.result.now =
    get_or-map (λ (v : Vec ℕ Global). v.items) t.lists.items j c.index.result.now [] within ∙ ap (λ (v : Vec ℕ Global). v.items) (sym c.index.ensures) ∙ sym c.deref.ensures.value in
    let inside : j < length t.tables.items = omega (arith, within, t.each) in
    let bare : untabled_in t j ≡ c.asked.result.now =
    ap (λ o. unwrap_or (option_map (λ (x : Tables). x.asked.items) o) []) (slice_get-get_or t.tables.items j c.index-in-states.result.now inside ∙ ap Some (sym c.index-in-states.ensures))
    ∙ sym c.asked.ensures in
    let marked : (k : ℕ) → k < length old → get_or new k false
    ≡ (get_or old k false || list_any (stands_at (list_in lists (get_or t.list_at.items at 0)) k) (untabled_in t (get_or t.list_at.items at 0)))
    = λ k within.
    c.mark_at.ensures.marked k (subst (λ xs. k < length xs) (sym value) within)
    ∙ ap₂ (λ ms b. get_or ms k false || b) value
    (ap₂ (λ ps xs. list_any (stands_at ps k) xs) (sym places) (sym bare) ∙ ap (λ i. list_any (stands_at (list_in lists i) k) (untabled_in t i)) is) in
    let more = mark_all_more (λ k i. list_any (stands_at (list_in lists i) k) (untabled_in t i)) (length t.rules.items) old new t.list_at.items at lt c.states.invariant
    (c.mark_at.ensures.len ∙ ap length value) marked in
    let back = with_items_is c.states.marks new len in
    (ap length back ∙ more.0, λ k within. ap (λ xs. get_or xs k false) back ∙ more.1 k within)

pub returns-clause-asked : goal.returns-clause-asked
returns-clause-asked g c k lt =
    let t = c.args.self.now in
    let lists = map (λ (v : Vec ℕ Global). v.items) t.lists.items in
    c.states.invariant.1 k lt
    ∙ ap (list_any (λ j. list_any (stands_at (list_in lists j) k) (untabled_in t j))) (take_all c.states.at t.list_at.items (omega (arith, c.states-test.false, c.len-at-end.ensures, t.list_at.ok.0)))
