use Rattle.std.proofs.Common.{◌≡◌, [], ◌∷◌, length, sym, ap, ◌∙◌, subst, arith}
use Rattle.std.specs.Prelude.{option_copied}
use Rattle.std.proofs.lemmas.Str.{IsCharBoundary-start}
use Rattle.lrlex_boundaries.specs.Entries.{plain, AreEntries}
use Rattle.lrlex_rules.specs.Matchers.{AreMatchers}
use Rattle.lrlex_definition.specs.RuleTable.{AreOf}
use Rattle.lrlex_definition.specs.StateTables.{most_tables}
use Rattle.lrlex_rules.specs.Tiling.{top}
use Rattle.lrlex_definition.specs.RuleTable.{definition_by}
use Rattle.lrlex.proofs.EntryLemmas.{entries-one}
use Rattle.lrlex.proofs.ReachLemmas.{AreStates, one_state}
use Rattle.lrlex.proofs.lexing.cursor.Cursor.rewind.Goals as goal

pub returns-clause-cursor : goal.returns-clause-cursor
returns-clause-cursor g c =
    let d = definition_by g.S.Numbered.number c.args.table.now in
    let was = c.requires in
    let is : c.reset.new.entries.items ≡ (1, 0) ∷ [] = c.reset.ensures in
    let one : length (plain c.reset.new.entries.items) ≡ 1 = ap (λ xs. length (plain xs)) is in
    record {
      stands = record {
        boundary = IsCharBoundary-start c.args.text.now c.utf8.text;
        entries = subst AreEntries (sym is) (entries-one 0);
        states = subst (λ xs. AreStates d (plain xs)) (sym is) (one_state d 0 was.initial);
        some = omega (arith, one);
        room = omega (arith, one);
      };
      initial = was.initial;
      rules = subst (λ q. AreOf g.S.Numbered.number c.args.table.now q c.rules_in-self.result) (sym c.rules_in-self.ensures.state) c.rules_in-self.ensures.rules;
      state = c.rules_in-self.ensures.state ∙ ap (λ xs. top (plain xs)) (sym is);
      searcher = record {
        matchers = subst (λ ms. AreMatchers c.args.table.now.rules.items ms.items) (sym c.rewind.ensures.matchers) was.searcher.matchers;
        lists = ap (λ ls. ls.now) c.rewind.ensures.lists ∙ was.searcher.lists;
        text = ap (λ t. t.now) c.rewind.ensures.text ∙ was.searcher.text;
        chain = ap option_copied c.rewind.ensures.chain ∙ was.searcher.chain;
      };
      behind = tt;
      sought = tt;
      worked = λ kept. c.rewind.ensures.linear (most_tables c.args.table.now.tables.items);
    }
