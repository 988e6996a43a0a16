use Rattle.std.proofs.Common.{◌≡◌, ◌+◌, ◌-◌, ◌^◌, ◌<◌, option_map, ◌++◌, ◌∷◌, [], Result, Ok, Err, IfOk, true≢false, max, not, length, drop, refl, sym, ap, ◌∙◌, subst, arith, rules}
use Rattle.std.proofs.lemmas.List.{length-map}
use Rattle.regex_hir.specs.Text.{is_some_and}
use Rattle.lrlex_rules.specs.RuleParts.{as_rule}
use Rattle.lrlex_rules.specs.Active.{is_state, rule_at}
use Rattle.lrlex.specs.Lookahead.{IsDecided, capped}
use Rattle.lrlex_definition.specs.RowKinds.{own_kind}
use Rattle.lrlex.specs.Searcher.{IsFoundAt, tile_of}
use Rattle.lrlex_definition.specs.RuleTable.{untabled_count}
use Rattle.lrlex_rules.specs.Tiling.{Tile, Wins, IsTaken, lexeme_of, stack_after, top}
use Rattle.lrlex_boundaries.specs.Entries.{plain}
use Rattle.lrlex_definition.specs.RuleTable.{definition_by}
use Rattle.lrlex.specs.Views.{items_by}
use Rattle.lrlex.specs.Work.{won_bytes}
use Rattle.lrlex.proofs.AdvanceLemmas.{advanced, searched}
use Rattle.lrlex.proofs.FrontLemmas.{last_behind}
use Rattle.lrlex_definition.proofs.KindLemmas.{no_target_of}
use Rattle.lrlex.proofs.ReachLemmas.{entries_now, last_now, room_for, searches-few}
use Rattle.lrlex_table.proofs.LinearLemmas.{linear_later}
use Rattle.lrlex.proofs.LinearLemmas.{gone_on, won_within}
use Rattle.lrlex.proofs.lexing.step.advance.Goals as goal

if_ok : {A E : Type 0} (r : Result A E) (P : Type 0) → P → IfOk r (λ _. P)
if_ok (Ok x) P h = h
if_ok (Err e) P h = tt

pub stay-requires-clause-entries : goal.stay-requires-clause-entries
stay-requires-clause-entries g c =
    let p = c.args.progress.now in
    entries_now (definition_by g.S.Numbered.number c.args.table.now) c.args.text.now p.place p.stack.items (c.requires.under_way.0.items ++ items_by g.S.Numbered.number g.X.Lexeme.seen p.items.items) (c.requires.under_way.0.boundaries ++ p.boundaries) p.asked c.requires.under_way.1.reached

pub stay-requires-clause-last : goal.stay-requires-clause-last
stay-requires-clause-last g c =
    let p = c.args.progress.now in
    sym (last_behind c.requires.under_way.0.boundaries p.boundaries c.requires.under_way.1.some)
    ∙ last_now (definition_by g.S.Numbered.number c.args.table.now) c.args.text.now p.place p.stack.items (c.requires.under_way.0.items ++ items_by g.S.Numbered.number g.X.Lexeme.seen p.items.items) (c.requires.under_way.0.boundaries ++ p.boundaries) p.asked c.requires.under_way.1.reached

pub returns-then-kind-clause-held : goal.returns-then-kind-clause-held
returns-then-kind-clause-held g c = (c.enter.ensures.rules, c.pass.ensures.searcher c.args.text.now c.requires.searcher)

pub returns-in-Some-clause-held : goal.returns-in-Some-clause-held
returns-in-Some-clause-held g c = if_ok c.take_scan.result _ (c.enter.ensures.rules, c.pass.ensures.searcher c.args.text.now c.requires.searcher)

pub returns-clause-held : goal.returns-clause-held
returns-clause-held g c = if_ok c.take_scan-2.result _ (c.enter.ensures.rules, c.in_ok-scan.ensures.searcher c.args.text.now c.requires.searcher)

pub returns-then-kind-clause-stepped : goal.returns-then-kind-clause-stepped
returns-then-kind-clause-stepped g c =
    let table = c.args.table.now in
    let p = c.args.progress.now in
    let found = c.in-Some.found in
    let len = found.next.end - p.place in
    let at : IsFoundAt g.S.Numbered.number table c.enter.new.rules.state c.args.text.now p.place (tile_of p.place found) = c.in-Some.ensures.tile c.args.text.now c.requires.searcher in
    let d = definition_by g.S.Numbered.number table in
    let text = c.args.text.now in
    let t : Tile = record { rule = found.kind.rule; len = len } in
    let on_top : c.enter.new.rules.state ≡ top (plain p.stack.items) = c.enter.ensures.state ∙ c.top_of.ensures ∙ ap (λ s. top (plain s)) c.deref.ensures.value in
    let rule = c.in-Some.ensures.plain c.if-kind.true in
    let target = no_target_of g.S.Numbered.number (own_kind found.kind).id (rule_at d found.kind.rule) rule in
    let taken : IsTaken d (drop p.place text) (plain p.stack.items) t = record {
      wins = subst (λ q. Wins d q (drop p.place text) found.kind.rule len) on_top at.wins;
      has_id = rule.has_id;
      has_target = ap (λ o. is_some_and o (λ s. not (is_state d s.0))) target;
    } in
    let n = c.stay.new.progress in
    let e = c.in_ok-stay.ensures in
    record {
      goes_on = λ _ f u.
          advanced g.S.Numbered.number g.X.Lexeme.seen d text f p n u c.requires.inside t (len + 1) taken at.cuts
          (subst (λ q. IsDecided d q (drop p.place text) (len + 1)) on_top at.decided)
          (omega (arith, e.asked))
          (ap (items_by g.S.Numbered.number g.X.Lexeme.seen) e.items ∙ c.in_ok-push_lexeme.ensures
          ∙ ap (λ o. items_by g.S.Numbered.number g.X.Lexeme.seen p.items.items ++ lexeme_of o p.place len) (ap (option_map g.S.Numbered.number) c.own_id.ensures ∙ sym rule.gives))
          e.place e.entries (e.moved ∙ ap (stack_after (plain p.stack.items)) (sym target))
          e.lookahead (e.ahead ∙ ap (λ i. p.ahead.items ++ capped i ∷ []) (sym e.lookahead)) e.kept;
      ends = λ is. absurd (true≢false is);
      asked = λ f u.
          searched g.S.Numbered.number g.X.Lexeme.seen table text f p n u c.requires.inside (omega (arith, e.asked))
          (omega (arith, e.asked, ap (untabled_count table) on_top, at.tabled));
    }

pub take_scan-requires-clause-scan : goal.take_scan-requires-clause-scan
take_scan-requires-clause-scan g c =
    let table = c.args.table.now in
    let p = c.args.progress.now in
    let found = c.in-Some.found in
    let len = found.next.end - p.place in
    let at : IsFoundAt g.S.Numbered.number table c.enter.new.rules.state c.args.text.now p.place (tile_of p.place found) = c.in-Some.ensures.tile c.args.text.now c.requires.searcher in
    record { winner = at.wins; decided = at.decided }

pub overflow_add-scan : goal.overflow_add-scan
overflow_add-scan g c =
    let p = c.args.progress.now in
    let at : IsFoundAt g.S.Numbered.number c.args.table.now c.enter.new.rules.state c.args.text.now p.place (tile_of p.place c.in-Some.found) = c.in-Some.ensures.tile c.args.text.now c.requires.searcher in
    let small : length c.args.text.now < 2 ^ 64 = search rules in
    omega (arith, at.within, small)

pub take_scan-requires-clause-asked : goal.take_scan-requires-clause-asked
take_scan-requires-clause-asked g c =
    let p = c.args.progress.now in
    let at : IsFoundAt g.S.Numbered.number c.args.table.now c.enter.new.rules.state c.args.text.now p.place (tile_of p.place c.in-Some.found) = c.in-Some.ensures.tile c.args.text.now c.requires.searcher in
    record { counted = omega arith; exact = omega (arith, at.tabled) }

pub take_scan-requires-clause-tile : goal.take_scan-requires-clause-tile
take_scan-requires-clause-tile g c =
    let table = c.args.table.now in
    let p = c.args.progress.now in
    let found = c.in-Some.found in
    let len = found.next.end - p.place in
    let at : IsFoundAt g.S.Numbered.number table c.enter.new.rules.state c.args.text.now p.place (tile_of p.place found) = c.in-Some.ensures.tile c.args.text.now c.requires.searcher in
    (at.cuts, omega (arith, at.rule, table.rules.ok.0))

pub winner-requires-clause-room : goal.winner-requires-clause-room
winner-requires-clause-room g c =
    let d = definition_by g.S.Numbered.number c.args.table.now in
    let r = c.requires.under_way.1.reached in
    let rules_len = length-map c.args.table.now.rules.items (as_rule g.S.Numbered.number) in
    let few = searches-few d c.args.text.now r.before in
    let room = room_for c.args.progress.now.asked (length r.before) (length d.rules) (omega (arith, r.few)) (omega (arith, c.args.table.now.rules.ok.0, c.args.table.now.rules.ok.1, c.args.table.now.rules.small))
    (omega (arith, few, r.asks)) in
    omega (arith, c.args.table.now.rules.ok.0, room)

pub winner-requires-clause-searcher : goal.winner-requires-clause-searcher
winner-requires-clause-searcher g c = (c.args.text.now, c.requires.searcher, c.range_from-rest.ensures.value, omega (arith, c.requires.inside))

pub returns-then-kind-clause-linear : goal.returns-then-kind-clause-linear
returns-then-kind-clause-linear g c first was =
    let p = c.args.progress.now in
    let at : IsFoundAt g.S.Numbered.number c.args.table.now c.enter.new.rules.state c.args.text.now p.place (tile_of p.place c.in-Some.found) = c.in-Some.ensures.tile c.args.text.now c.requires.searcher in
    let behind = c.in_ok-stay.ensures.place in
    (c.stay.new.progress.place, omega (arith, behind, at.within), λ is. refl, linear_later _ first p.place c.stay.new.progress.place c.pass.new.self.ends (c.pass.ensures.linear first p.place was) (omega (arith, behind)))

pub returns-in-Some-clause-linear : goal.returns-in-Some-clause-linear
returns-in-Some-clause-linear g c =
    let p = c.args.progress.now in
    let at : IsFoundAt g.S.Numbered.number c.args.table.now c.enter.new.rules.state c.args.text.now p.place (tile_of p.place c.in-Some.found) = c.in-Some.ensures.tile c.args.text.now c.requires.searcher in
    let end = p.place + max 1 (c.in-Some.found.next.end - p.place) in
    gone_on c.args.table.now c.args.text.now c.args.searcher.now.ends c.pass.new.self.ends p.place end c.take_scan.new.progress.place c.take_scan.result
    (λ first was. linear_later _ first p.place end c.pass.new.self.ends (c.pass.ensures.linear first p.place was) (omega arith))
    (omega (arith, at.within, c.requires.inside)) c.take_scan.ensures.place

pub returns-clause-linear : goal.returns-clause-linear
returns-clause-linear g c =
    let p = c.args.progress.now in
    let scan = c.in_ok-scan.scan in
    gone_on c.args.table.now c.args.text.now c.args.searcher.now.ends c.winner.new.self.ends p.place (p.place + max 1 (won_bytes scan.winner)) c.take_scan-2.new.progress.place c.take_scan-2.result
    (λ first was. c.in_ok-scan.ensures.linear first was)
    (won_within _ scan.winner c.args.text.now p.place c.requires.inside (rw c.range_from-rest.ensures.value at c.in_ok-scan.ensures.tile)) c.take_scan-2.ensures.place
