use Rattle.std.proofs.Common.{◌≡◌, ◌+◌, ◌<◌, None, length, drop, true, false, refl, sym, ap, ap₂, ◌∙◌, subst, arith, rules}
use Rattle.std.specs.Prelude.{IfSome}
use Rattle.std.proofs.lemmas.Str.{IsCharBoundary-from_rest}
use Rattle.lrlex_base.specs.Spans.{span}
use Rattle.lrlex_boundaries.specs.Entries.{plain, AreEntries}
use Rattle.lrlex_rules.specs.Definition.{Rule}
use Rattle.lrlex_rules.specs.Active.{is_state, lacks_id, lacks_target, lexeme_id, rule_at}
use Rattle.lrlex.specs.Scanner.{IsSought, Scanned, sought_at, sought_to}
use Rattle.lrlex_definition.specs.StateTables.{most_tables}
use Rattle.lrlex_rules.specs.Tiling.{IsStuck, Tile, stack_after, top}
use Rattle.lrlex_definition.specs.RuleTable.{definition_by}
use Rattle.lrlex.specs.Work.{HasWorked, most_cells_by}
use Rattle.lrlex_table.proofs.LinearLemmas.{linear_later}
use Rattle.lrlex.proofs.FoundLemmas.{none_sought, sought_before}
use Rattle.lrlex.proofs.ReachLemmas.{AreStates, IsSound, something_left, sound_after, top_is_state, wins_at}
use Rattle.lrlex_definition.proofs.Parted.{rule_read}
use Rattle.lrlex.proofs.lexing.scanning.take_tile.Goals as goal

pub returns-in_default : goal.returns-in_default
returns-in_default g c =
    let d = definition_by g.S.Numbered.number c.args.table.now in
    let place = c.args.cursor.now.place in
    let text = c.args.text.now in
    record {
      cursor = c.requires.cursor;
      step = (
        something_left text place c.requires.sought.inside,
        c.new-state.ensures ∙ c.requires.cursor.state,
        subst (λ q. IsStuck d q (drop place text)) (sym c.new-state.ensures) (rw c.in_default.is at c.requires.sought.wins),
      );
      moved = refl;
      stayed = tt;
    }

pub returns-then-lacks_id : goal.returns-then-lacks_id
returns-then-lacks_id g c =
    let d = definition_by g.S.Numbered.number c.args.table.now in
    let stack = plain c.args.cursor.now.stack.items in
    let t : Tile = record { rule = c.in-Some.tile.rule; len = c.in-Some.tile.len } in
    let within : t.rule < length c.args.table.now.rules.items = omega (arith, c.args.table.now.rules.ok.0, (rw c.in-Some.is at c.requires.sought.tile).1) in
    let rule_is = rule_read g.S.Numbered.number c.args.table.now t.rule c.index-rule.result.now within c.index-rule.ensures in
    let wins = wins_at d c.args.cursor.now.rules.state stack (drop c.args.cursor.now.place c.args.text.now) (drop c.args.cursor.now.place c.args.text.now) t c.requires.cursor.state refl (rw c.in-Some.is at c.requires.sought.wins) in
    record {
      cursor = record {
        stands = c.requires.cursor.stands;
        initial = c.requires.cursor.initial;
        rules = c.requires.cursor.rules;
        state = c.requires.cursor.state;
        searcher = c.requires.cursor.searcher;
        behind = c.requires.cursor.behind;
        sought = c.requires.cursor.sought;
        worked = c.requires.cursor.worked;
      };
      step = (t, refl, wins, ap lacks_id rule_is ∙ sym c.if-lacks_id.ensures);
      moved = refl;
      stayed = tt;
    }

pub returns-then-lacks_target : goal.returns-then-lacks_target
returns-then-lacks_target g c =
    let d = definition_by g.S.Numbered.number c.args.table.now in
    let stack = plain c.args.cursor.now.stack.items in
    let t : Tile = record { rule = c.in-Some.tile.rule; len = c.in-Some.tile.len } in
    let within : t.rule < length c.args.table.now.rules.items = omega (arith, c.args.table.now.rules.ok.0, (rw c.in-Some.is at c.requires.sought.tile).1) in
    let rule_is = rule_read g.S.Numbered.number c.args.table.now t.rule c.index-rule.result.now within c.index-rule.ensures in
    let wins = wins_at d c.args.cursor.now.rules.state stack (drop c.args.cursor.now.place c.args.text.now) (drop c.args.cursor.now.place c.args.text.now) t c.requires.cursor.state refl (rw c.in-Some.is at c.requires.sought.wins) in
    record {
      cursor = record {
        stands = c.requires.cursor.stands;
        initial = c.requires.cursor.initial;
        rules = c.requires.cursor.rules;
        state = c.requires.cursor.state;
        searcher = c.requires.cursor.searcher;
        behind = c.requires.cursor.behind;
        sought = c.requires.cursor.sought;
        worked = c.requires.cursor.worked;
      };
      step = (
        t,
        record {
          rule = refl;
          id = c.lexeme_id.ensures ∙ sym (ap lexeme_id rule_is);
          bytes = ap₂ span c.new.ensures.start c.new.ensures.end;
        },
        (wins, ap lacks_id rule_is ∙ sym c.if-lacks_id.ensures, ap (lacks_target d) rule_is ∙ sym c.if-lacks_target.ensures),
      );
      moved = refl;
      stayed = tt;
    }

pub returns-in_err-step : goal.returns-in_err-step
returns-in_err-step g c =
    let d = definition_by g.S.Numbered.number c.args.table.now in
    let same : c.step.new.entries.items ≡ c.args.cursor.now.stack.items = c.in_err-step.ensures.same in
    record {
      cursor = record {
        stands = record {
          boundary = c.requires.cursor.stands.boundary;
          entries = subst AreEntries (sym same) c.requires.cursor.stands.entries;
          states = subst (λ xs. AreStates d (plain xs)) (sym same) c.requires.cursor.stands.states;
          some = omega (arith, c.requires.cursor.stands.some, ap (λ xs. length (plain xs)) same);
          room = omega (arith, c.requires.cursor.stands.room, ap (λ xs. length (plain xs)) same);
        };
        initial = c.requires.cursor.initial;
        rules = c.requires.cursor.rules;
        state = c.requires.cursor.state ∙ ap (λ xs. top (plain xs)) (sym same);
        searcher = c.requires.cursor.searcher;
        behind = c.requires.cursor.behind;
        sought = c.requires.cursor.sought;
        worked = c.requires.cursor.worked;
      };
      step = search rules;
      moved = search rules;
      stayed = search rules;
    }

pub returns : goal.returns
returns g c =
    let text = c.args.text.now in
    let place = c.args.cursor.now.place in
    let d = definition_by g.S.Numbered.number c.args.table.now in
    let stack = plain c.args.cursor.now.stack.items in
    let t : Tile = record { rule = c.in-Some.tile.rule; len = c.in-Some.tile.len } in
    let within : t.rule < length c.args.table.now.rules.items = omega (arith, c.args.table.now.rules.ok.0, (rw c.in-Some.is at c.requires.sought.tile).1) in
    let rule_is = rule_read g.S.Numbered.number c.args.table.now t.rule c.index-rule.result.now within c.index-rule.ensures in
    let wins = wins_at d c.args.cursor.now.rules.state stack (drop c.args.cursor.now.place c.args.text.now) (drop c.args.cursor.now.place c.args.text.now) t c.requires.cursor.state refl (rw c.in-Some.is at c.requires.sought.wins) in
    let has_target : lacks_target d (rule_at d t.rule) ≡ false = ap (lacks_target d) rule_is ∙ sym c.if-lacks_target.ensures in
    let moved : plain c.step.new.entries.items ≡ stack_after stack (rule_at d t.rule).target =
    c.in_ok-step.ensures.moved ∙ ap (stack_after stack) c.target_state.ensures ∙ sym (ap (λ (x : Rule). stack_after stack x.target) rule_is) in
    let was = c.args.cursor.now.sought in
    let later = place + t.len in
    let none : sought_at later was ≡ None = none_sought place later was c.requires.cursor.behind (omega (arith, wins.some)) in
    let sound : IsSound d stack (stack_after stack (rule_at d t.rule).target) = sound_after d stack (rule_at d t.rule).target c.requires.cursor.initial c.requires.cursor.stands.states c.requires.cursor.stands.some has_target in
    record {
      cursor = record {
        stands = record {
          boundary =
              IsCharBoundary-from_rest text place t.len c.requires.cursor.stands.boundary.0 (rw c.in-Some.is at c.requires.sought.tile).0;
          entries = c.in_ok-step.ensures.entries;
          states = subst (AreStates d) (sym moved) sound.states;
          some = omega (arith, sound.some, ap length moved);
          room = omega (arith, sound.deep, ap length moved, c.requires.cursor.stands.room, wins.some);
        };
        initial = c.requires.cursor.initial;
        rules = c.enter.ensures.rules;
        state = c.enter.ensures.state ∙ c.top_of.ensures ∙ ap (λ s. top (plain s)) c.deref.ensures.value;
        searcher = c.requires.cursor.searcher;
        behind = sought_before place later was c.requires.cursor.behind (omega arith);
        sought = subst (λ o. IfSome o (IsSought g.S.Numbered.number c.args.table.now text later c.enter.new.rules.state)) (sym none) tt;
        worked = λ kept. subst (λ o. HasWorked c.args.table.now c.args.cursor.now.from (sought_to later o) c.args.cursor.now.searcher.ends) (sym none)
            (linear_later (most_tables c.args.table.now.tables.items) c.args.cursor.now.from (sought_to place (sought_at place was)) later c.args.cursor.now.searcher.ends
            (c.requires.cursor.worked kept) (omega (arith, rw c.in-Some.is at c.requires.within, wins.some)));
      };
      step = (
        t,
        record {
          rule = refl;
          id = c.lexeme_id.ensures ∙ sym (ap lexeme_id rule_is);
          bytes = ap₂ span c.new.ensures.start c.new.ensures.end;
        },
        record {
          wins = wins;
          has_id = ap lacks_id rule_is ∙ sym c.if-lacks_id.ensures;
          has_target = ap (lacks_target d) rule_is ∙ sym c.if-lacks_target.ensures;
        },
      );
      moved = ap₂ (λ p s. let made : Scanned = record { definition = d; text = text; place = p; stack = s; most_cells = most_cells_by c.args.table.now text } in made) (sym c.new.ensures.end) moved;
      stayed = tt;
    }

pub enter-requires-clause-id : goal.enter-requires-clause-id
enter-requires-clause-id g c =
    let d = definition_by g.S.Numbered.number c.args.table.now in
    let stack = plain c.args.cursor.now.stack.items in
    let k = c.in-Some.tile.rule in
    let within : k < length c.args.table.now.rules.items = omega (arith, c.args.table.now.rules.ok.0, (rw c.in-Some.is at c.requires.sought.tile).1) in
    let rule_is = rule_read g.S.Numbered.number c.args.table.now k c.index-rule.result.now within c.index-rule.ensures in
    let has_target : lacks_target d (rule_at d k) ≡ false = ap (lacks_target d) rule_is ∙ sym c.if-lacks_target.ensures in
    let moved : plain c.step.new.entries.items ≡ stack_after stack (rule_at d k).target =
    c.in_ok-step.ensures.moved ∙ ap (stack_after stack) c.target_state.ensures ∙ sym (ap (λ (x : Rule). stack_after stack x.target) rule_is) in
    let sound : IsSound d stack (stack_after stack (rule_at d k).target) = sound_after d stack (rule_at d k).target c.requires.cursor.initial c.requires.cursor.stands.states c.requires.cursor.stands.some has_target in
    let on_top : c.top_of.result ≡ top (plain c.step.new.entries.items) = c.top_of.ensures ∙ ap (λ s. top (plain s)) c.deref.ensures.value in
    subst (λ q. is_state d q ≡ true) (sym on_top)
    (top_is_state d (plain c.step.new.entries.items) (subst (AreStates d) (sym moved) sound.states) (omega (arith, sound.some, ap length moved)))
