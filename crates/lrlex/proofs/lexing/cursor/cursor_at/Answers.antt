use Rattle.std.proofs.Common.{◌≡◌, length, sym, ap, ◌∙◌, subst, arith}
use Rattle.lrlex_boundaries.specs.Entries.{plain, AreEntries}
use Rattle.lrlex_definition.specs.RuleTable.{AreOf}
use Rattle.lrlex_rules.specs.Tiling.{top}
use Rattle.lrlex_definition.specs.RuleTable.{definition_by}
use Rattle.lrlex.proofs.ReachLemmas.{AreStates}
use Rattle.lrlex.proofs.lexing.cursor.cursor_at.Goals as goal

pub returns-clause-cursor : goal.returns-clause-cursor
returns-clause-cursor g c =
    let d = definition_by g.S.Numbered.number c.args.table.now in
    let at = c.requires.stands in
    let same : c.in_ok-stack.stack.items ≡ c.args.at.now.stack.items = c.in_ok-stack.ensures ∙ c.deref.ensures.value in
    record {
      stands = record {
        boundary = at.boundary;
        entries = subst AreEntries (sym same) at.entries;
        states = subst (λ xs. AreStates d (plain xs)) (sym same) at.states;
        some = omega (arith, at.some, ap (λ xs. length (plain xs)) same);
        room = omega (arith, at.room, ap (λ xs. length (plain xs)) same);
      };
      initial = c.requires.initial;
      rules = subst (λ q. AreOf g.S.Numbered.number c.args.table.now q c.rules_in.result) (sym c.rules_in.ensures.state) c.rules_in.ensures.rules;
      state = c.rules_in.ensures.state ∙ c.top_of.ensures ∙ ap (λ xs. top (plain xs)) c.deref-2.ensures.value;
      searcher = c.in_ok-searcher.ensures.searcher;
      behind = tt;
      sought = tt;
      worked = λ kept. c.in_ok-searcher.ensures.linear c.args.at.now.place;
    }
