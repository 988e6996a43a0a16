use Rattle.std.proofs.Common.{◌≡◌, ◌-◌, ◌<◌, ◌≤◌, true, false, length, sym, ap, ◌∙◌, subst, arith, append-nil, IsCharBoundary}
use Rattle.std.proofs.lemmas.Str.{IsCharBoundary-start}
use Rattle.lrlex_rules.specs.Tiling.{Done}
use Rattle.lrlex.specs.Lookahead.{LooksAhead}
use Rattle.lrlex.specs.Reach.{IsRun, searches}
use Rattle.lrlex_definition.specs.RuleTable.{AreOf}
use Rattle.lrlex.specs.Progress.{no_front}
use Rattle.lrlex_definition.specs.RuleTable.{definition_by}
use Rattle.lrlex.specs.Views.{items_by}
use Rattle.lrlex.proofs.BegunLemmas.{begun, begun_looking}
use Rattle.lrlex_boundaries.specs.Entries.{plain, AreEntries}
use Rattle.lrlex_rules.specs.Active.{is_state}
use Rattle.lrlex_rules.specs.Tiling.{top}
use Rattle.lrlex.proofs.ReachLemmas.{entries_now, top_is_state, ended, nothing_left, asked_now, few_searches, run_of, length_now}
use Rattle.lrlex.specs.Searches.{asks_by}
use Rattle.lrlex.proofs.SearchLemmas.{asks_nowhere, more_asked, all_asked, next_asked}
use Rattle.lrlex.specs.Work.{HasWorked, IsLinearIn}
use Rattle.lrlex.proofs.LinearLemmas.{linear_in_all}
use Rattle.lrlex.proofs.lexing.run.lex.Goals as goal

pub tiles-init : goal.tiles-init
tiles-init g c =
    let p = c.in_ok-progress.progress in
    let e = c.in_ok-progress.ensures in
    record {
      rules = subst (λ q. AreOf g.S.Numbered.number c.args.table.now q c.rules_in-rules.result) (sym c.rules_in-rules.ensures.state) c.rules_in-rules.ensures.rules;
      searcher = c.in_ok-searcher.ensures.searcher;
      boundary = subst (IsCharBoundary c.args.text.now) (sym e.place) (IsCharBoundary-start c.args.text.now c.utf8.text);
      reached = begun (definition_by g.S.Numbered.number c.args.table.now) c.args.text.now g.S.Numbered.number g.X.Lexeme.seen p.place p.stack.items p.items.items p.boundaries p.asked e.place e.stack e.items e.boundaries e.asked (sym c.is_state.ensures ∙ c.if-not-is_state.false);
      looked = begun_looking (definition_by g.S.Numbered.number c.args.table.now) c.args.text.now p.boundaries p.ahead.items p.place p.lookahead e.boundaries e.ahead e.place e.lookahead;
      exact = e.asked ∙ sym (asks_nowhere c.args.table.now c.args.text.now p.boundaries 0 (length p.boundaries - 1) (omega (arith, ap length e.boundaries)));
      linear = subst (λ n. HasWorked c.args.table.now 0 n c.in_ok-searcher.searcher.ends) (sym e.place) (c.in_ok-searcher.ensures.linear 0);
    }

pub take_ahead-requires-clause-at : goal.take_ahead-requires-clause-at
take_ahead-requires-clause-at g c =
    let p = c.tiles.progress in
    let is = c.tiles.invariant in
    let found = items_by g.S.Numbered.number g.X.Lexeme.seen p.items.items in
    record {
      running = record {
        under_way = record {
          boundary = is.boundary;
          some = omega (arith, length_now (definition_by g.S.Numbered.number c.args.table.now) c.args.text.now p.place p.stack.items found p.boundaries p.asked is.reached);
          reached = is.reached;
          looked = is.looked;
        };
        exact = is.exact;
      };
      state = c.enter.ensures.state ∙ c.top_of.ensures ∙ ap (λ s. top (plain s)) c.as_slice.ensures.value;
      inside = omega (arith, c.tiles-test.true);
      searcher = is.searcher;
    }

pub tiles-preserved : goal.tiles-preserved
tiles-preserved g c =
    let u = c.in_ok-take_ahead.ensures.taken.at.running.under_way in
    let on : c.in_ok-goes_on.goes_on ≡ true = c.if-not-goes_on.false in
    let p = c.take_ahead.new.progress in
    let d = definition_by g.S.Numbered.number c.args.table.now in
    let found = items_by g.S.Numbered.number g.X.Lexeme.seen p.items.items in
    let r = u.reached in
    let some = u.some in
    let more = (c.in_ok-goes_on.ensures.stepped.goes_on on no_front u).more in
    record {
      rules = c.in_ok-goes_on.ensures.held.0;
      searcher = c.in_ok-goes_on.ensures.held.1;
      boundary = (c.in_ok-goes_on.ensures.stepped.goes_on on no_front u).under_way.boundary;
      reached = (c.in_ok-goes_on.ensures.stepped.goes_on on no_front u).under_way.reached;
      looked = (c.in_ok-goes_on.ensures.stepped.goes_on on no_front u).under_way.looked;
      exact = next_asked c.args.table.now c.args.text.now d p.place p.stack.items found p.boundaries p.asked r 0 some c.in_ok-take_ahead.ensures.taken.at.running.exact c.advance.new.progress.asked more.0 c.advance.new.progress.boundaries
          c.in_ok-take_ahead.ensures.taken.at.inside (c.in_ok-goes_on.ensures.stepped.asked no_front u).exact more.1;
      linear =
          let gone = c.in_ok-goes_on.ensures.linear 0 (c.in_ok-take_ahead.ensures.taken.linear 0 c.tiles.invariant.linear) in
          subst (λ n. HasWorked c.args.table.now 0 n c.advance.new.searcher.ends) (gone.2 on) gone.3;
    }

pub returns-clause-run : goal.returns-clause-run
returns-clause-run g c =
    let p = c.tiles.progress in
    let d = definition_by g.S.Numbered.number c.args.table.now in
    let found = items_by g.S.Numbered.number g.X.Lexeme.seen p.items.items in
    subst (λ xs. IsRun d c.args.text.now (items_by g.S.Numbered.number g.X.Lexeme.seen xs) c.finished-2.result.boundaries) (sym c.finished-2.ensures.items)
    (subst (IsRun d c.args.text.now found) (sym c.finished-2.ensures.boundaries)
    (run_of d c.args.text.now found p.boundaries c.tiles.invariant.reached.initial
    (ended d c.args.text.now p.place p.stack.items found p.boundaries p.asked c.tiles.invariant.reached found Done (nothing_left c.args.text.now p.place c.tiles-test.false) (sym (append-nil found)))))

pub returns-clause-few : goal.returns-clause-few
returns-clause-few g c =
    let p = c.tiles.progress in
    let d = definition_by g.S.Numbered.number c.args.table.now in
    few_searches d c.args.text.now p.boundaries c.finished-2.result.boundaries p.asked c.finished-2.result.asked
    (asked_now d c.args.text.now p.place p.stack.items (items_by g.S.Numbered.number g.X.Lexeme.seen p.items.items) p.boundaries p.asked c.tiles.invariant.reached)
    c.finished-2.ensures.asked c.finished-2.ensures.boundaries

pub returns-clause-asked : goal.returns-clause-asked
returns-clause-asked g c =
    let p = c.tiles.progress in
    let d = definition_by g.S.Numbered.number c.args.table.now in
    subst (λ ms. c.finished-2.result.asked ≤ searches d c.args.text.now ms) (sym c.finished-2.ensures.boundaries)
    (omega (arith, c.finished-2.ensures.asked, asked_now d c.args.text.now p.place p.stack.items (items_by g.S.Numbered.number g.X.Lexeme.seen p.items.items) p.boundaries p.asked c.tiles.invariant.reached))

pub returns-then-not-goes_on-clause-run : goal.returns-then-not-goes_on-clause-run
returns-then-not-goes_on-clause-run g c =
    let u = c.in_ok-take_ahead.ensures.taken.at.running.under_way in
    let d = definition_by g.S.Numbered.number c.args.table.now in
    let p = c.advance.new.progress in
    let off : c.in_ok-goes_on.goes_on ≡ false = c.if-not-goes_on.true in
    subst (λ xs. IsRun d c.args.text.now (items_by g.S.Numbered.number g.X.Lexeme.seen xs) c.finished.result.boundaries) (sym c.finished.ensures.items)
    (subst (IsRun d c.args.text.now (items_by g.S.Numbered.number g.X.Lexeme.seen p.items.items)) (sym c.finished.ensures.boundaries)
    (run_of d c.args.text.now (items_by g.S.Numbered.number g.X.Lexeme.seen p.items.items) p.boundaries u.reached.initial (c.in_ok-goes_on.ensures.stepped.ends off no_front u).lexed))

pub returns-then-not-goes_on-clause-few : goal.returns-then-not-goes_on-clause-few
returns-then-not-goes_on-clause-few g c =
    let u = c.in_ok-take_ahead.ensures.taken.at.running.under_way in
    let d = definition_by g.S.Numbered.number c.args.table.now in
    let off : c.in_ok-goes_on.goes_on ≡ false = c.if-not-goes_on.true in
    few_searches d c.args.text.now c.take_ahead.new.progress.boundaries c.finished.result.boundaries c.advance.new.progress.asked c.finished.result.asked
    (c.in_ok-goes_on.ensures.stepped.asked no_front u).few c.finished.ensures.asked (c.finished.ensures.boundaries ∙ (c.in_ok-goes_on.ensures.stepped.ends off no_front u).same)

pub advance-requires-clause-rules : goal.advance-requires-clause-rules
advance-requires-clause-rules g c = c.enter.ensures.rules

pub returns-clause-exact : goal.returns-clause-exact
returns-clause-exact g c =
    let p = c.tiles.progress in
    let d = definition_by g.S.Numbered.number c.args.table.now in
    let found = items_by g.S.Numbered.number g.X.Lexeme.seen p.items.items in
    let r = c.tiles.invariant.reached in
    let some : 0 < length p.boundaries = omega (arith, length_now d c.args.text.now p.place p.stack.items found p.boundaries p.asked r) in
    c.finished-2.ensures.asked ∙ all_asked c.args.table.now c.args.text.now d p.place p.stack.items found p.boundaries p.asked r 0 some c.tiles.invariant.exact c.tiles-test.false
    ∙ ap (asks_by c.args.table.now c.args.text.now) (sym c.finished-2.ensures.boundaries)

pub returns-then-not-goes_on-clause-exact : goal.returns-then-not-goes_on-clause-exact
returns-then-not-goes_on-clause-exact g c =
    let u = c.in_ok-take_ahead.ensures.taken.at.running.under_way in
    let p = c.take_ahead.new.progress in
    let d = definition_by g.S.Numbered.number c.args.table.now in
    let found = items_by g.S.Numbered.number g.X.Lexeme.seen p.items.items in
    let r = u.reached in
    let some = u.some in
    c.finished.ensures.asked
    ∙ more_asked c.args.table.now c.args.text.now d p.place p.stack.items found p.boundaries p.asked r 0 some c.in_ok-take_ahead.ensures.taken.at.running.exact c.advance.new.progress.asked c.in_ok-take_ahead.ensures.taken.at.inside (c.in_ok-goes_on.ensures.stepped.asked no_front u).exact
    ∙ ap (asks_by c.args.table.now c.args.text.now) (sym (c.finished.ensures.boundaries ∙ (c.in_ok-goes_on.ensures.stepped.ends c.if-not-goes_on.true no_front u).same))

pub advance-requires-clause-under_way : goal.advance-requires-clause-under_way
advance-requires-clause-under_way g c =
    let u = c.in_ok-take_ahead.ensures.taken.at.running.under_way in
    (no_front, u)

pub returns-then-not-goes_on-clause-asked : goal.returns-then-not-goes_on-clause-asked
returns-then-not-goes_on-clause-asked g c =
    let u = c.in_ok-take_ahead.ensures.taken.at.running.under_way in
    let d = definition_by g.S.Numbered.number c.args.table.now in
    subst (λ ms. c.finished.result.asked ≤ searches d c.args.text.now ms) (sym (c.finished.ensures.boundaries ∙ (c.in_ok-goes_on.ensures.stepped.ends c.if-not-goes_on.true no_front u).same))
    (omega (arith, c.finished.ensures.asked, (c.in_ok-goes_on.ensures.stepped.asked no_front u).few))

pub tiles-smaller : goal.tiles-smaller
tiles-smaller g c =
    let u = c.in_ok-take_ahead.ensures.taken.at.running.under_way in
    omega (arith, (c.in_ok-goes_on.ensures.stepped.goes_on c.if-not-goes_on.false no_front u).grows, c.in_ok-take_ahead.ensures.taken.onward, c.tiles-test.true)

pub returns-then-not-goes_on-clause-looks : goal.returns-then-not-goes_on-clause-looks
returns-then-not-goes_on-clause-looks g c =
    let u = c.in_ok-take_ahead.ensures.taken.at.running.under_way in
    let d = definition_by g.S.Numbered.number c.args.table.now in
    let e = c.in_ok-goes_on.ensures.stepped.ends c.if-not-goes_on.true no_front u in
    subst (λ ns. LooksAhead d c.args.text.now c.finished.result.boundaries ns) (sym (c.finished.ensures.ahead ∙ e.ahead))
    (subst (λ ms. LooksAhead d c.args.text.now ms c.take_ahead.new.progress.ahead.items) (sym (c.finished.ensures.boundaries ∙ e.same)) u.looked.looks)

pub returns-clause-looks : goal.returns-clause-looks
returns-clause-looks g c =
    let d = definition_by g.S.Numbered.number c.args.table.now in
    subst (λ ns. LooksAhead d c.args.text.now c.finished-2.result.boundaries ns) (sym c.finished-2.ensures.ahead)
    (subst (λ ms. LooksAhead d c.args.text.now ms c.tiles.progress.ahead.items) (sym c.finished-2.ensures.boundaries) c.tiles.invariant.looked.looks)

pub returns-then-not-is_state-clause-run : goal.returns-then-not-is_state-clause-run
returns-then-not-is_state-clause-run g c =
    c.stateless.ensures.run (definition_by g.S.Numbered.number c.args.table.now) c.args.text.now (sym c.is_state.ensures ∙ c.if-not-is_state.true)

pub returns-then-not-is_state-clause-looks : goal.returns-then-not-is_state-clause-looks
returns-then-not-is_state-clause-looks g c = c.stateless.ensures.looks (definition_by g.S.Numbered.number c.args.table.now) c.args.text.now

pub top_of-requires : goal.top_of-requires
top_of-requires g c =
    let p = c.tiles.progress in
    subst AreEntries (sym c.as_slice.ensures.value)
    (entries_now (definition_by g.S.Numbered.number c.args.table.now) c.args.text.now p.place p.stack.items (items_by g.S.Numbered.number g.X.Lexeme.seen p.items.items) p.boundaries p.asked c.tiles.invariant.reached)

pub enter-requires-clause-id : goal.enter-requires-clause-id
enter-requires-clause-id g c =
    let d = definition_by g.S.Numbered.number c.args.table.now in
    let stack = plain c.tiles.progress.stack.items in
    let on_top : c.top_of.result ≡ top stack = c.top_of.ensures ∙ ap (λ s. top (plain s)) c.as_slice.ensures.value in
    subst (λ q. is_state d q ≡ true) (sym on_top) (top_is_state d stack c.tiles.invariant.reached.states c.tiles.invariant.reached.some)

pub returns-then-not-goes_on-clause-linear : goal.returns-then-not-goes_on-clause-linear
returns-then-not-goes_on-clause-linear g c =
    let table = c.args.table.now in
    let text = c.args.text.now in
    let gone = c.in_ok-goes_on.ensures.linear 0 (c.in_ok-take_ahead.ensures.taken.linear 0 c.tiles.invariant.linear) in
    subst (IsLinearIn table text (length text)) (sym c.finished.ensures.looked)
    (linear_in_all table text 0 gone.0 c.looked.result gone.1 (c.looked.ensures text 0 gone.0 c.in_ok-goes_on.ensures.held.1 gone.3 gone.1))

pub returns-clause-linear : goal.returns-clause-linear
returns-clause-linear g c =
    let table = c.args.table.now in
    let text = c.args.text.now in
    let p = c.tiles.progress in
    let inside = c.tiles.invariant.boundary.0 in
    subst (IsLinearIn table text (length text)) (sym c.finished-2.ensures.looked)
    (linear_in_all table text 0 p.place c.looked-2.result inside (c.looked-2.ensures text 0 p.place c.tiles.invariant.searcher c.tiles.invariant.linear inside))
