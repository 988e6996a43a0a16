use Rattle.std.proofs.Common.{◌≡◌, [], ◌∷◌, ◌++◌, length, sym, ap, ◌∙◌, subst, arith}
use Rattle.std.proofs.lemmas.Str.{IsCharBoundary-start}
use Rattle.lrlex_boundaries.specs.Entries.{plain, AreEntries}
use Rattle.lrlex_definition.specs.RuleTable.{AreOf}
use Rattle.lrlex_rules.specs.Tiling.{top}
use Rattle.lrlex_definition.specs.RuleTable.{definition_by}
use Rattle.lrlex.proofs.EntryLemmas.{entries-one}
use Rattle.lrlex.proofs.ReachLemmas.{AreStates, one_state}
use Rattle.lrlex.proofs.lexing.cursor.cursor_of.Goals as goal

pub returns-clause-cursor : goal.returns-clause-cursor
returns-clause-cursor g c =
    let d = definition_by g.S.Numbered.number c.args.table.now in
    let is : c.push.new.self.items ≡ (1, 0) ∷ [] = c.in_ok-push.ensures.items ∙ ap (λ xs. xs ++ (1, 0) ∷ []) c.new-stack.ensures.items in
    let one : length (plain c.push.new.self.items) ≡ 1 = ap (λ xs. length (plain xs)) is in
    record {
      stands = record {
        boundary = IsCharBoundary-start c.args.text.now c.utf8.text;
        entries = subst AreEntries (sym is) (entries-one 0);
        states = subst (λ xs. AreStates d (plain xs)) (sym is) (one_state d 0 c.requires);
        some = omega (arith, one);
        room = omega (arith, one);
      };
      initial = c.requires;
      rules = subst (λ q. AreOf g.S.Numbered.number c.args.table.now q c.rules_in.result) (sym c.rules_in.ensures.state) c.rules_in.ensures.rules;
      state = c.rules_in.ensures.state ∙ ap (λ xs. top (plain xs)) (sym is);
      searcher = c.in_ok-searcher.ensures.searcher;
      behind = tt;
      sought = tt;
      worked = λ kept. c.in_ok-searcher.ensures.linear 0;
    }
