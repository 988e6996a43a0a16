use Rattle.std.proofs.Common.{◌≡◌, ◌<◌, ◌||◌, ℕ, Vec, Global, [], false, get_or, length, map, sym, ap, ap₂, ◌∙◌, subst, arith}
use Rattle.std.specs.List.{list_any}
use Rattle.std.proofs.lemmas.List.{with_items_is, get_or-map, get_or_default, take_all}
use Rattle.lrlex_table.specs.Tables.{is_among}
use Rattle.lrlex_rules.specs.RuleLists.{list_in}
use Rattle.lrlex_definition.proofs.MarkLemmas.{mark_all_more, somewhere}
use Rattle.lrlex_definition.proofs.rule_table.RuleTable.active_somewhere.Goals as goal

pub states-preserved : goal.states-preserved
states-preserved g c =
    let t = c.args.self.now in
    let lists = map (λ (v : Vec ℕ Global). v.items) t.lists.items in
    let at = c.states.at in
    let j = c.index-list.result.now in
    let old = c.states.marks.items in
    let value = c.deref_mut.ensures.value in
    let new = c.mark_all.new.marks in
    let len : length new ≡ c.states.marks.len = c.mark_all.ensures.len ∙ c.deref_mut.ensures.len in
    let lt : at < length t.list_at.items = omega (arith, c.states-test.true, c.len-at-end.ensures, t.list_at.ok.0) in
    let is : j ≡ get_or t.list_at.items at 0 = c.index-list.ensures ∙ get_or_default t.list_at.items at j 0 lt in
    let within : j < length t.lists.items = subst (λ n. n < length t.lists.items) (sym c.index-list.ensures) (t.within at j lt) in
    let places : list_in lists j ≡ c.deref.result.now =
    get_or-map (λ (v : Vec ℕ Global). v.items) t.lists.items j c.index.result.now [] within ∙ ap (λ (v : Vec ℕ Global). v.items) (sym c.index.ensures) ∙ sym c.deref.ensures.value in
    let marked : (k : ℕ) → k < length old → get_or new k false ≡ (get_or old k false || is_among (list_in lists (get_or t.list_at.items at 0)) k)
    = λ k within.
    c.mark_all.ensures.marked k (subst (λ xs. k < length xs) (sym value) within)
    ∙ ap₂ (λ ms ps. get_or ms k false || is_among ps k) value (sym places ∙ ap (list_in lists) is) in
    let more = mark_all_more (λ k i. is_among (list_in lists i) k) (length t.rules.items) old new t.list_at.items at lt c.states.invariant (c.mark_all.ensures.len ∙ ap length value) marked in
    let back = with_items_is c.states.marks new len in
    (ap length back ∙ more.0, λ k within. ap (λ xs. get_or xs k false) back ∙ more.1 k within)

pub returns-clause-active : goal.returns-clause-active
returns-clause-active g c k lt =
    let t = c.args.self.now in
    let lists = map (λ (v : Vec ℕ Global). v.items) t.lists.items in
    c.states.invariant.1 k lt
    ∙ ap (list_any (λ j. is_among (list_in lists j) k)) (take_all c.states.at t.list_at.items (omega (arith, c.states-test.false, c.len-at-end.ensures, t.list_at.ok.0)))
    ∙ somewhere g.S.Numbered.number t k lt
