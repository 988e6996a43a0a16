use Rattle.std.specs.List.Sorted.{IsPartitionedBy}
use Rattle.std.proofs.Common.{◌≡◌, ◌^◌, ◌<◌, ◌≤◌, ◌++◌, length, sym, ap, ◌∙◌, subst, arith}
use Rattle.lrlex_table.specs.Reach.{IsText}
use Rattle.lrlex_table.proofs.ByteLemmas.{are_bytes}
use Rattle.lrlex.specs.Searches.{IsLastSafe}
use Rattle.lrlex_definition.specs.RuleTable.{AreOf}
use Rattle.lrlex_boundaries.specs.Boundaries.{boundary_at}
use Rattle.lrlex_boundaries.specs.Entries.{plain, AreEntries}
use Rattle.lrlex.specs.Lookahead.{IsSafe, items_before}
use Rattle.lrlex.specs.Moves.{begins_before}
use Rattle.lrlex_definition.specs.RuleTable.{definition_by}
use Rattle.lrlex.specs.Views.{items_by}
use Rattle.lrlex.specs.Work.{HasWorked}
use Rattle.lrlex.proofs.RecutLemmas.{new_len, old_lexed, old_looks, old_sorted, some_old, old_first_safe, old_order, front, whole, none_cut, one_cut, cut_met, cut_stopped, cut_ended}
use Rattle.lrlex.proofs.LinearLemmas.{linear_to_end}
use Rattle.lrlex.proofs.MeetLemmas.{none_met}
use Rattle.lrlex.proofs.ReachLemmas.{entries_now}
use Rattle.lrlex.proofs.editing.relex.lex_changed.Goals as goal

pub last_safe-index-requires-clause-sorted : goal.last_safe-index-requires-clause-sorted
last_safe-index-requires-clause-sorted g c = old_sorted g.S.Numbered.number g.X.Lexeme.seen c.args.table.now c.args.old.now.items.now c.args.old.now.boundaries.now c.args.old.now.ahead.now c.args.edit.now.removed c.args.edit.now.put.now c.args.new.now c.requires.known c.requires.initial

pub last_safe-index-requires-clause-numbers : goal.last_safe-index-requires-clause-numbers
last_safe-index-requires-clause-numbers g c = (old_looks g.S.Numbered.number g.X.Lexeme.seen c.args.table.now c.args.old.now.items.now c.args.old.now.boundaries.now c.args.old.now.ahead.now c.args.edit.now.removed c.args.edit.now.put.now c.args.new.now c.requires.known c.requires.initial).len

pub last_safe-index-requires-clause-some : goal.last_safe-index-requires-clause-some
last_safe-index-requires-clause-some g c = some_old g.S.Numbered.number g.X.Lexeme.seen c.args.table.now c.args.old.now.items.now c.args.old.now.boundaries.now c.args.old.now.ahead.now c.args.edit.now.removed c.args.edit.now.put.now c.args.new.now c.requires.known c.requires.initial

pub last_safe-index-requires-clause-first : goal.last_safe-index-requires-clause-first
last_safe-index-requires-clause-first g c =
    let is : IsText c.args.new.now = record { bytes = are_bytes c.args.new.now c.type_inv.new; utf8 = c.utf8.new } in
    subst (λ n. IsSafe c.args.old.now.boundaries.now c.args.old.now.ahead.now n 0) (sym c.start.ensures) (old_first_safe g.S.Numbered.number g.X.Lexeme.seen c.args.table.now c.args.old.now.items.now c.args.old.now.boundaries.now c.args.old.now.ahead.now c.args.edit.now.removed c.args.edit.now.put.now c.args.new.now c.requires.known c.requires.initial is)

pub count_before-first-requires : goal.count_before-first-requires
count_before-first-requires g c =
    subst (λ i. IsPartitionedBy (begins_before i) (items_by g.S.Numbered.number g.X.Lexeme.seen c.args.old.now.items.now)) (sym c.place.ensures)
    (old_order g.S.Numbered.number g.X.Lexeme.seen c.args.table.now c.args.old.now.items.now c.args.old.now.boundaries.now c.args.old.now.ahead.now c.args.edit.now.removed c.args.edit.now.put.now c.args.new.now c.requires.known c.requires.initial c.last_safe-index.result c.last_safe-index.ensures.within)

pub resume-requires-clause-numbers : goal.resume-requires-clause-numbers
resume-requires-clause-numbers g c = (old_looks g.S.Numbered.number g.X.Lexeme.seen c.args.table.now c.args.old.now.items.now c.args.old.now.boundaries.now c.args.old.now.ahead.now c.args.edit.now.removed c.args.edit.now.put.now c.args.new.now c.requires.known c.requires.initial).len

pub boundaries_before_rest-cursor-requires : goal.boundaries_before_rest-cursor-requires
boundaries_before_rest-cursor-requires g c = old_sorted g.S.Numbered.number g.X.Lexeme.seen c.args.table.now c.args.old.now.items.now c.args.old.now.boundaries.now c.args.old.now.ahead.now c.args.edit.now.removed c.args.edit.now.put.now c.args.new.now c.requires.known c.requires.initial

pub tiles-init : goal.tiles-init
tiles-init g c =
    let o = c.args.old.now in
    let low = c.args.edit.now.removed.start in
    let is : IsText c.args.new.now = record { bytes = are_bytes c.args.new.now c.type_inv.new; utf8 = c.utf8.new } in
    let k = c.last_safe-index.result in
    let from : IsLastSafe o.boundaries.now o.ahead.now low k = subst (λ n. IsLastSafe o.boundaries.now o.ahead.now n k) c.start.ensures (record {
      within = c.last_safe-index.ensures.within;
      safe = c.last_safe-index.ensures.safe;
      last = c.last_safe-index.ensures.last;
    }) in
    record {
      searcher = c.in_ok-searcher.ensures.searcher;
      rules = subst (λ q. AreOf g.S.Numbered.number c.args.table.now q c.rules_in-rules.result) (sym c.rules_in-rules.ensures.state) c.rules_in-rules.ensures.rules;
      cut = none_cut g.S.Numbered.number g.X.Lexeme.seen c.args.table.now c.args.old.now.items.now c.args.old.now.boundaries.now c.args.old.now.ahead.now c.args.edit.now.removed c.args.edit.now.put.now c.args.new.now k c.requires.known.text c.in_ok-progress.progress c.requires.initial is c.requires.known.fits c.requires.known.gives
          (old_lexed g.S.Numbered.number g.X.Lexeme.seen c.args.table.now c.args.old.now.items.now c.args.old.now.boundaries.now c.args.old.now.ahead.now c.args.edit.now.removed c.args.edit.now.put.now c.args.new.now c.requires.known c.requires.initial)
          (old_looks g.S.Numbered.number g.X.Lexeme.seen c.args.table.now c.args.old.now.items.now c.args.old.now.boundaries.now c.args.old.now.ahead.now c.args.edit.now.removed c.args.edit.now.put.now c.args.new.now c.requires.known c.requires.initial) from c.in_ok-progress.ensures;
      cursor = c.boundaries_before_rest-cursor.ensures.within;
      behind = λ j lt. omega (arith, c.boundaries_before_rest-cursor.ensures.before j lt);
      worked =
          let first = (boundary_at o.boundaries.now k).place in
          subst (λ at. HasWorked c.args.table.now first at c.in_ok-searcher.searcher.ends) (sym c.in_ok-progress.ensures.place) (c.in_ok-searcher.ensures.linear first);
    }

pub meets-requires-clause-sorted : goal.meets-requires-clause-sorted
meets-requires-clause-sorted g c = old_sorted g.S.Numbered.number g.X.Lexeme.seen c.args.table.now c.args.old.now.items.now c.args.old.now.boundaries.now c.args.old.now.ahead.now c.args.edit.now.removed c.args.edit.now.put.now c.args.new.now c.requires.known c.requires.initial

pub meets-requires-clause-stack : goal.meets-requires-clause-stack
meets-requires-clause-stack g c =
    let p = c.tiles.progress in
    let u = c.tiles.invariant.cut.under_way in
    let k = c.last_safe-index.result in
    subst AreEntries (sym c.deref.ensures.value) (entries_now (definition_by g.S.Numbered.number c.args.table.now) c.args.new.now p.place p.stack.items
    ((front g.S.Numbered.number g.X.Lexeme.seen c.args.table.now c.args.old.now.items.now c.args.old.now.boundaries.now c.args.old.now.ahead.now c.args.edit.now.removed c.args.edit.now.put.now c.args.new.now k).items ++ items_by g.S.Numbered.number g.X.Lexeme.seen p.items.items) (whole g.S.Numbered.number g.X.Lexeme.seen c.args.table.now c.args.old.now.items.now c.args.old.now.boundaries.now c.args.old.now.ahead.now c.args.edit.now.removed c.args.edit.now.put.now c.args.new.now k p) p.asked u.reached)

pub meets-requires-clause-put : goal.meets-requires-clause-put
meets-requires-clause-put g c =
    let small : length c.args.new.now < 2 ^ 64 = omega arith in
    omega (arith, small, new_len g.S.Numbered.number g.X.Lexeme.seen c.args.table.now c.args.old.now.items.now c.args.old.now.boundaries.now c.args.old.now.ahead.now c.args.edit.now.removed c.args.edit.now.put.now c.args.new.now c.requires.known)

pub meets-requires-clause-room : goal.meets-requires-clause-room
meets-requires-clause-room g c = omega (arith, new_len g.S.Numbered.number g.X.Lexeme.seen c.args.table.now c.args.old.now.items.now c.args.old.now.boundaries.now c.args.old.now.ahead.now c.args.edit.now.removed c.args.edit.now.put.now c.args.new.now c.requires.known, c.tiles-test.true, c.requires.known.fits.1.0, c.requires.known.small)

pub returns-then-meets : goal.returns-then-meets
returns-then-meets g c =
    let first = (boundary_at c.args.old.now.boundaries.now c.last_safe-index.result).place in
    let at = c.meets.ensures.at in
    let yes = c.if-meets.true in
    let place : c.place.result ≡ (boundary_at c.args.old.now.boundaries.now c.last_safe-index.result).place = c.place.ensures in
    let before = c.count_before-first.ensures.before ∙ ap (λ i. items_before i (items_by g.S.Numbered.number g.X.Lexeme.seen c.args.old.now.items.now)) place in
    let le : c.tiles.progress.place ≤ length c.args.new.now = omega (arith, c.tiles-test.true) in
    let near = c.looked.ensures c.args.new.now first c.tiles.progress.place c.tiles.invariant.searcher c.tiles.invariant.worked le in
    cut_met g.S.Numbered.number g.X.Lexeme.seen c.args.table.now c.args.old.now.items.now c.args.old.now.boundaries.now c.args.old.now.ahead.now c.args.edit.now.removed c.args.edit.now.put.now c.args.new.now c.last_safe-index.result
    c.count_before-first.result c.count_before-first.ensures.within before c.looked.result
    (linear_to_end c.args.table.now c.args.new.now first c.tiles.progress.place c.looked.result le near)
    c.tiles.progress c.meets.new.cursor c.tiles.invariant.cut (record {
      under_way = c.tiles.invariant.cut.under_way;
      within = at.within yes;
      past = at.past yes;
      place = at.place yes;
      stack = at.stack yes ∙ c.deref.ensures.value;
    }) near

pub advance-requires-clause-under_way : goal.advance-requires-clause-under_way
advance-requires-clause-under_way g c =
    (front g.S.Numbered.number g.X.Lexeme.seen c.args.table.now c.args.old.now.items.now c.args.old.now.boundaries.now c.args.old.now.ahead.now c.args.edit.now.removed c.args.edit.now.put.now c.args.new.now c.last_safe-index.result, c.tiles.invariant.cut.under_way)

pub returns-then-not-branch : goal.returns-then-not-branch
returns-then-not-branch g c =
    let p = c.tiles.progress in
    let cut = c.tiles.invariant.cut in
    let k = c.last_safe-index.result in
    let f = front g.S.Numbered.number g.X.Lexeme.seen c.args.table.now c.args.old.now.items.now c.args.old.now.boundaries.now c.args.old.now.ahead.now c.args.edit.now.removed c.args.edit.now.put.now c.args.new.now k in
    let o = c.args.old.now in
    let edit = c.args.edit.now in
    let D = definition_by g.S.Numbered.number c.args.table.now in
    let none = none_met D c.args.new.now o.boundaries.now edit.removed.start edit.removed.end (length edit.put.now) p.place p.stack.items (f.items ++ items_by g.S.Numbered.number g.X.Lexeme.seen p.items.items)
    (whole g.S.Numbered.number g.X.Lexeme.seen c.args.table.now c.args.old.now.items.now c.args.old.now.boundaries.now c.args.old.now.ahead.now c.args.edit.now.removed c.args.edit.now.put.now c.args.new.now k p) p.asked cut.under_way.reached cut.unmet
    (λ past j within at same. c.meets.ensures.none c.if-meets.false past j within at (same ∙ ap (λ xs. plain xs) (sym c.deref.ensures.value))) in
    let before = c.count_before-first.ensures.before ∙ ap (λ i. items_before i (items_by g.S.Numbered.number g.X.Lexeme.seen o.items.now)) c.place.ensures in
    let searched = c.in_ok-advance.ensures.stepped.asked f cut.under_way in
    let first = (boundary_at o.boundaries.now k).place in
    let gone = c.in_ok-advance.ensures.linear first c.tiles.invariant.worked in
    cut_stopped g.S.Numbered.number g.X.Lexeme.seen c.args.table.now c.args.old.now.items.now c.args.old.now.boundaries.now c.args.old.now.ahead.now c.args.edit.now.removed c.args.edit.now.put.now c.args.new.now k
    c.count_before-first.result c.count_before-first.ensures.within before c.looked-then-not-branch.result
    (linear_to_end c.args.table.now c.args.new.now first gone.0 c.looked-then-not-branch.result gone.1 (c.looked-then-not-branch.ensures c.args.new.now first gone.0 c.in_ok-advance.ensures.held.1 gone.3 gone.1))
    p c.advance.new.progress cut none (c.in_ok-advance.ensures.stepped.ends c.if-not-branch.true f cut.under_way) c.tiles-test.true searched.exact searched.few

pub tiles-smaller : goal.tiles-smaller
tiles-smaller g c =
    let f = front g.S.Numbered.number g.X.Lexeme.seen c.args.table.now c.args.old.now.items.now c.args.old.now.boundaries.now c.args.old.now.ahead.now c.args.edit.now.removed c.args.edit.now.put.now c.args.new.now c.last_safe-index.result in
    omega (arith, (c.in_ok-advance.ensures.stepped.goes_on c.if-not-branch.false f c.tiles.invariant.cut.under_way).grows, c.tiles-test.true)

pub tiles-preserved : goal.tiles-preserved
tiles-preserved g c =
    let p = c.tiles.progress in
    let cut = c.tiles.invariant.cut in
    let k = c.last_safe-index.result in
    let f = front g.S.Numbered.number g.X.Lexeme.seen c.args.table.now c.args.old.now.items.now c.args.old.now.boundaries.now c.args.old.now.ahead.now c.args.edit.now.removed c.args.edit.now.put.now c.args.new.now k in
    let o = c.args.old.now in
    let edit = c.args.edit.now in
    let D = definition_by g.S.Numbered.number c.args.table.now in
    let none = none_met D c.args.new.now o.boundaries.now edit.removed.start edit.removed.end (length edit.put.now) p.place p.stack.items (f.items ++ items_by g.S.Numbered.number g.X.Lexeme.seen p.items.items)
    (whole g.S.Numbered.number g.X.Lexeme.seen c.args.table.now c.args.old.now.items.now c.args.old.now.boundaries.now c.args.old.now.ahead.now c.args.edit.now.removed c.args.edit.now.put.now c.args.new.now k p) p.asked cut.under_way.reached cut.unmet
    (λ past j within at same. c.meets.ensures.none c.if-meets.false past j within at (same ∙ ap (λ xs. plain xs) (sym c.deref.ensures.value))) in
    let on = c.in_ok-advance.ensures.stepped.goes_on c.if-not-branch.false f cut.under_way in
    record {
      searcher = c.in_ok-advance.ensures.held.1;
      rules = c.in_ok-advance.ensures.held.0;
      cut = one_cut g.S.Numbered.number g.X.Lexeme.seen c.args.table.now c.args.old.now.items.now c.args.old.now.boundaries.now c.args.old.now.ahead.now c.args.edit.now.removed c.args.edit.now.put.now c.args.new.now k p c.advance.new.progress cut none on c.tiles-test.true (c.in_ok-advance.ensures.stepped.asked f cut.under_way).exact;
      cursor = c.meets.ensures.at.cursor;
      behind = λ j lt. omega (arith, c.meets.ensures.at.behind j lt, on.grows);
      worked =
          let first = (boundary_at o.boundaries.now k).place in
          let gone = c.in_ok-advance.ensures.linear first c.tiles.invariant.worked in
          subst (λ at. HasWorked c.args.table.now first at c.advance.new.searcher.ends) (gone.2 c.if-not-branch.false) gone.3;
    }

pub returns : goal.returns
returns g c =
    let first = (boundary_at c.args.old.now.boundaries.now c.last_safe-index.result).place in
    let le = c.tiles.invariant.cut.under_way.boundary.0 in
    let before = c.count_before-first.ensures.before ∙ ap (λ i. items_before i (items_by g.S.Numbered.number g.X.Lexeme.seen c.args.old.now.items.now)) c.place.ensures in
    cut_ended g.S.Numbered.number g.X.Lexeme.seen c.args.table.now c.args.old.now.items.now c.args.old.now.boundaries.now c.args.old.now.ahead.now c.args.edit.now.removed c.args.edit.now.put.now c.args.new.now c.last_safe-index.result
    c.count_before-first.result c.count_before-first.ensures.within before c.looked-2.result
    (linear_to_end c.args.table.now c.args.new.now first c.tiles.progress.place c.looked-2.result le (c.looked-2.ensures c.args.new.now first c.tiles.progress.place c.tiles.invariant.searcher c.tiles.invariant.worked le))
    c.tiles.progress c.tiles.invariant.cut (omega (arith, c.tiles-test.false))
