use Rattle.std.proofs.Common.{◌≡◌, ◌+◌, ◌<◌, ◌≤◌, List, [], ◌∷◌, ◌++◌, None, true≢false, length, drop, refl, sym, ap, ◌∙◌, subst, arith, append_assoc}
use Rattle.lrlex_rules.specs.Definition.{Rule}
use Rattle.lrlex_rules.specs.Active.{active_count, lacks_id, lacks_target, lexeme_id}
use Rattle.lrlex.specs.Searcher.{HasAsked}
use Rattle.lrlex_rules.specs.Tiling.{Tile, Item, Error, top, IsTaken, stack_after, lexeme_of, tile_items, NoMatch, NoId, NoTarget}
use Rattle.lrlex_boundaries.specs.Entries.{plain}
use Rattle.lrlex_definition.specs.RuleTable.{definition_by}
use Rattle.lrlex.specs.Views.{items_by}
use Rattle.lrlex_definition.proofs.Parted.{rule_read}
use Rattle.lrlex.proofs.ReachLemmas.{ended, entries_now, last_now, wins_at, something_left}
use Rattle.lrlex.specs.Lookahead.{IsDecided, capped}
use Rattle.lrlex.proofs.AdvanceLemmas.{advanced, searched}
use Rattle.lrlex.proofs.FrontLemmas.{joined, last_behind}
use Rattle.lrlex.proofs.lexing.taking.take_scan.Goals as goal

pub push_boundary-requires-clause-entries : goal.push_boundary-requires-clause-entries
push_boundary-requires-clause-entries g c =
    let p = c.args.progress.now in
    entries_now (definition_by g.S.Numbered.number c.args.table.now) c.args.text.now p.place p.stack.items (c.requires.under_way.0.items ++ items_by g.S.Numbered.number g.X.Lexeme.seen p.items.items) (c.requires.under_way.0.boundaries ++ p.boundaries) p.asked c.requires.under_way.1.reached

pub push_boundary-requires-clause-last : goal.push_boundary-requires-clause-last
push_boundary-requires-clause-last g c =
    let p = c.args.progress.now in
    sym (last_behind c.requires.under_way.0.boundaries p.boundaries c.requires.under_way.1.some)
    ∙ last_now (definition_by g.S.Numbered.number c.args.table.now) c.args.text.now p.place p.stack.items (c.requires.under_way.0.items ++ items_by g.S.Numbered.number g.X.Lexeme.seen p.items.items) (c.requires.under_way.0.boundaries ++ p.boundaries) p.asked c.requires.under_way.1.reached

pub returns-in_default-clause-stepped : goal.returns-in_default-clause-stepped
returns-in_default-clause-stepped g c =
    let d = definition_by g.S.Numbered.number c.args.table.now in
    let text = c.args.text.now in
    let p = c.args.progress.now in
    let asked : HasAsked g.S.Numbered.number c.args.table.now (top (plain p.stack.items)) p.asked c.args.asked =
    subst (λ q. HasAsked g.S.Numbered.number c.args.table.now q p.asked c.args.asked) c.requires.state c.requires.asked in
    record {
      goes_on = λ is. absurd (true≢false (sym is));
      ends = λ _ f u.
          let found = f.items ++ items_by g.S.Numbered.number g.X.Lexeme.seen p.items.items in
          let bounds = f.boundaries ++ p.boundaries in
          record {
            lexed =
                ended d text p.place p.stack.items found bounds p.asked u.reached (f.items ++ items_by g.S.Numbered.number g.X.Lexeme.seen c.push_error.new.items.items) (NoMatch c.args.state)
                (something_left text p.place c.requires.inside, c.requires.state, rw c.in_default.is at c.requires.scan.winner)
                (joined f.items (items_by g.S.Numbered.number g.X.Lexeme.seen p.items.items) _ _ c.in_ok-push_error.ensures);
            same = refl;
            ahead = refl;
          };
      asked = λ f u. searched g.S.Numbered.number g.X.Lexeme.seen c.args.table.now text f p (record p { asked = c.args.asked; items = c.push_error.new.items }) u c.requires.inside asked.counted asked.exact;
    }

pub returns-then-lacks_id-clause-stepped : goal.returns-then-lacks_id-clause-stepped
returns-then-lacks_id-clause-stepped g c =
    let d = definition_by g.S.Numbered.number c.args.table.now in
    let text = c.args.text.now in
    let p = c.args.progress.now in
    let t : Tile = record { rule = c.in-Some.tile.rule; len = c.in-Some.tile.len } in
    let within : t.rule < length c.args.table.now.rules.items = omega (arith, c.args.table.now.rules.ok.0, (rw c.in-Some.is at c.requires.tile).1) in
    let rule_is = rule_read g.S.Numbered.number c.args.table.now t.rule c.index-rule.result.now within c.index-rule.ensures in
    let wins = wins_at d c.args.state (plain p.stack.items) (drop p.place text) (drop p.place text) t c.requires.state refl (rw c.in-Some.is at c.requires.scan.winner) in
    let asked : HasAsked g.S.Numbered.number c.args.table.now (top (plain p.stack.items)) p.asked c.args.asked =
    subst (λ q. HasAsked g.S.Numbered.number c.args.table.now q p.asked c.args.asked) c.requires.state c.requires.asked in
    record {
      goes_on = λ is. absurd (true≢false (sym is));
      ends = λ _ f u.
          let found = f.items ++ items_by g.S.Numbered.number g.X.Lexeme.seen p.items.items in
          let bounds = f.boundaries ++ p.boundaries in
          record {
            lexed =
                ended d text p.place p.stack.items found bounds p.asked u.reached (f.items ++ items_by g.S.Numbered.number g.X.Lexeme.seen c.push_error-then-lacks_id.new.items.items) NoId
                (t, wins, ap lacks_id rule_is ∙ sym c.if-lacks_id.ensures)
                (joined f.items (items_by g.S.Numbered.number g.X.Lexeme.seen p.items.items) _ _ c.in_ok-push_error-2.ensures);
            same = refl;
            ahead = refl;
          };
      asked = λ f u. searched g.S.Numbered.number g.X.Lexeme.seen c.args.table.now text f p (record p { asked = c.args.asked; items = c.push_error-then-lacks_id.new.items }) u c.requires.inside asked.counted asked.exact;
    }

pub returns-then-lacks_target-clause-stepped : goal.returns-then-lacks_target-clause-stepped
returns-then-lacks_target-clause-stepped g c =
    let d = definition_by g.S.Numbered.number c.args.table.now in
    let text = c.args.text.now in
    let p = c.args.progress.now in
    let t : Tile = record { rule = c.in-Some.tile.rule; len = c.in-Some.tile.len } in
    let within : t.rule < length c.args.table.now.rules.items = omega (arith, c.args.table.now.rules.ok.0, (rw c.in-Some.is at c.requires.tile).1) in
    let rule_is = rule_read g.S.Numbered.number c.args.table.now t.rule c.index-rule.result.now within c.index-rule.ensures in
    let wins = wins_at d c.args.state (plain p.stack.items) (drop p.place text) (drop p.place text) t c.requires.state refl (rw c.in-Some.is at c.requires.scan.winner) in
    let asked : HasAsked g.S.Numbered.number c.args.table.now (top (plain p.stack.items)) p.asked c.args.asked =
    subst (λ q. HasAsked g.S.Numbered.number c.args.table.now q p.asked c.args.asked) c.requires.state c.requires.asked in
    record {
      goes_on = λ is. absurd (true≢false (sym is));
      ends = λ _ f u.
          let found = f.items ++ items_by g.S.Numbered.number g.X.Lexeme.seen p.items.items in
          let bounds = f.boundaries ++ p.boundaries in
          let given : f.items ++ items_by g.S.Numbered.number g.X.Lexeme.seen c.push_lexeme.new.items.items ≡ found ++ tile_items d p.place t =
          joined f.items (items_by g.S.Numbered.number g.X.Lexeme.seen p.items.items) _ _ (c.in_ok-push_lexeme.ensures ∙ ap (λ o. items_by g.S.Numbered.number g.X.Lexeme.seen p.items.items ++ lexeme_of o p.place t.len) c.lexeme_id.ensures) ∙ sym (ap (λ (x : Rule). found ++ lexeme_of (lexeme_id x) p.place t.len) rule_is) in
          record {
            lexed =
                ended d text p.place p.stack.items found bounds p.asked u.reached (f.items ++ items_by g.S.Numbered.number g.X.Lexeme.seen c.push_error-then-lacks_target.new.items.items) (NoTarget t)
                (wins, ap lacks_id rule_is ∙ sym c.if-lacks_id.ensures, ap (lacks_target d) rule_is ∙ sym c.if-lacks_target.ensures)
                (joined f.items (items_by g.S.Numbered.number g.X.Lexeme.seen c.push_lexeme.new.items.items) _ _ c.in_ok-push_error-3.ensures ∙ ap (λ (xs : List Item). xs ++ Error p.place p.place None ∷ []) given
                ∙ append_assoc found (tile_items d p.place t) (Error p.place p.place None ∷ []));
            same = refl;
            ahead = refl;
          };
      asked = λ f u. searched g.S.Numbered.number g.X.Lexeme.seen c.args.table.now text f p (record p { asked = c.args.asked; items = c.push_error-then-lacks_target.new.items }) u c.requires.inside asked.counted asked.exact;
    }

pub returns-clause-stepped : goal.returns-clause-stepped
returns-clause-stepped g c =
    let d = definition_by g.S.Numbered.number c.args.table.now in
    let text = c.args.text.now in
    let p = c.args.progress.now in
    let t : Tile = record { rule = c.in-Some.tile.rule; len = c.in-Some.tile.len } in
    let within : t.rule < length c.args.table.now.rules.items = omega (arith, c.args.table.now.rules.ok.0, (rw c.in-Some.is at c.requires.tile).1) in
    let rule_is = rule_read g.S.Numbered.number c.args.table.now t.rule c.index-rule.result.now within c.index-rule.ensures in
    let wins = wins_at d c.args.state (plain p.stack.items) (drop p.place text) (drop p.place text) t c.requires.state refl (rw c.in-Some.is at c.requires.scan.winner) in
    let asked : HasAsked g.S.Numbered.number c.args.table.now (top (plain p.stack.items)) p.asked c.args.asked =
    subst (λ q. HasAsked g.S.Numbered.number c.args.table.now q p.asked c.args.asked) c.requires.state c.requires.asked in
    let taken : IsTaken d (drop p.place text) (plain p.stack.items) t = record {
      wins = wins;
      has_id = ap lacks_id rule_is ∙ sym c.if-lacks_id.ensures;
      has_target = ap (lacks_target d) rule_is ∙ sym c.if-lacks_target.ensures;
    } in
    let n = c.push_boundary.new.progress in
    let e = c.in_ok-push_boundary.ensures in
    let few : n.asked ≤ p.asked + active_count d (top (plain p.stack.items)) = omega (arith, e.asked, asked.counted) in
    record {
      goes_on = λ _ f u.
          advanced g.S.Numbered.number g.X.Lexeme.seen d text f p n u c.requires.inside t c.args.scan.reach taken (rw c.in-Some.is at c.requires.tile).0
          (subst (λ q. IsDecided d q (drop p.place text) c.args.scan.reach) c.requires.state c.requires.scan.decided) few
          (ap (items_by g.S.Numbered.number g.X.Lexeme.seen) e.items ∙ c.in_ok-push_lexeme.ensures
          ∙ ap (λ o. items_by g.S.Numbered.number g.X.Lexeme.seen p.items.items ++ lexeme_of o p.place t.len) (c.lexeme_id.ensures ∙ sym (ap lexeme_id rule_is)))
          e.place e.entries (e.moved ∙ sym (ap (λ (x : Rule). stack_after (plain p.stack.items) x.target) rule_is))
          (omega (arith, e.lookahead, c.saturating_sub-lookahead.ensures, c.max.ensures))
          (e.ahead ∙ ap (λ i. p.ahead.items ++ capped i ∷ []) (sym e.lookahead)) e.kept;
      ends = λ is. absurd (true≢false is);
      asked = λ f u. searched g.S.Numbered.number g.X.Lexeme.seen c.args.table.now text f p n u c.requires.inside few (e.asked ∙ asked.exact);
    }
