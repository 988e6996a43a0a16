use Rattle.std.proofs.Common.{◌≡◌, ◌+◌, ◌-◌, ◌<◌, ◌≤◌, ◌∙◌, None, false, not, drop, option_map, refl, sym, ap, ap₂, subst, arith}
use Rattle.std.specs.Prelude.{IfSome, IsCharBoundary, max}
use Rattle.std.proofs.lemmas.Str.{IsCharBoundary-from_rest}
use Rattle.regex_hir.specs.Text.{is_some_and}
use Rattle.lrlex_base.specs.Spans.{span}
use Rattle.lrlex_boundaries.specs.Entries.{plain}
use Rattle.lrlex_rules.specs.Active.{is_state, rule_at}
use Rattle.lrlex.specs.Scanner.{IsSought, Scanned, sought_at, sought_to}
use Rattle.lrlex_definition.specs.RowKinds.{own_kind}
use Rattle.lrlex.specs.Searcher.{IsFoundAt, tile_of}
use Rattle.lrlex_definition.specs.StateTables.{most_tables}
use Rattle.lrlex_rules.specs.Tiling.{Tile, Wins, top}
use Rattle.lrlex_definition.specs.RuleTable.{definition_by}
use Rattle.lrlex.specs.Work.{HasWorked, most_cells_by}
use Rattle.lrlex_table.proofs.LinearLemmas.{linear_later}
use Rattle.lrlex.proofs.FoundLemmas.{found_sought, none_sought, sought_before}
use Rattle.lrlex_definition.proofs.KindLemmas.{no_target_of}
use Rattle.lrlex.proofs.PlainLemmas.{stays}
use Rattle.lrlex.proofs.lexing.scanner.next_step.Goals as goal

pub returns-then-kind : goal.returns-then-kind
returns-then-kind g c =
    let table = c.args.source.now.table.now in
    let text = c.args.source.now.text.now in
    let p = c.args.cursor.now in
    let found = c.in-Some.found in
    let kind = found.kind in
    let len = found.next.end - p.place in
    let at : IsFoundAt g.S.Numbered.number table p.rules.state text p.place (tile_of p.place found) = c.in-Some.ensures.tile text c.requires.cursor.searcher in
    let ends : p.place + len ≡ found.next.end = omega (arith, c.in-Some.ensures.some) in
    let sought = sought_at p.place p.sought in
    let to = sought_to p.place sought in
    let most : to ≤ p.place + max 1 len = found_sought g.S.Numbered.number table text p.place p.rules.state sought c.requires.cursor.sought (tile_of p.place found) at in
    let worked : p.lost ≡ false → HasWorked table p.from to c.pass.new.self.ends = λ kept. c.pass.ensures.linear p.from to (c.requires.cursor.worked kept) in
    let later : p.place < found.next.end = c.in-Some.ensures.some in
    let none : sought_at found.next.end p.sought ≡ None = none_sought p.place found.next.end p.sought c.requires.cursor.behind later in
    let d = definition_by g.S.Numbered.number table in
    let t : Tile = record { rule = kind.rule; len = len } in
    let stack = plain p.stack.items in
    let on_top : p.rules.state ≡ top stack = c.requires.cursor.state in
    let rule = c.in-Some.ensures.plain c.if-kind.true in
    let target = no_target_of g.S.Numbered.number (own_kind kind).id (rule_at d kind.rule) rule in
    record {
      cursor = record {
        stands = record {
          boundary = subst (IsCharBoundary text) ends (IsCharBoundary-from_rest text p.place len c.requires.cursor.stands.boundary.0 at.cuts);
          entries = c.requires.cursor.stands.entries;
          states = c.requires.cursor.stands.states;
          some = c.requires.cursor.stands.some;
          room = omega (arith, c.requires.cursor.stands.room);
        };
        initial = c.requires.cursor.initial;
        rules = c.requires.cursor.rules;
        state = c.requires.cursor.state;
        searcher = c.pass.ensures.searcher text c.requires.cursor.searcher;
        behind = sought_before p.place found.next.end p.sought c.requires.cursor.behind (omega (arith, later));
        sought = subst (λ o. IfSome o (IsSought g.S.Numbered.number table text found.next.end p.rules.state)) (sym none) tt;
        worked = λ kept. subst (λ o. HasWorked table p.from (sought_to found.next.end o) c.pass.new.self.ends) (sym none)
            (linear_later (most_tables table.tables.items) p.from to found.next.end c.pass.new.self.ends (worked kept) (omega (arith, most, later)));
      };
      step = (
        t,
        record {
          rule = refl;
          id = ap (option_map g.S.Numbered.number) c.own_id.ensures ∙ sym rule.gives;
          bytes = ap₂ span c.new.ensures.start (c.new.ensures.end ∙ sym ends);
        },
        record {
          wins = subst (λ q. Wins d q (drop p.place text) kind.rule len) on_top at.wins;
          has_id = rule.has_id;
          has_target = ap (λ o. is_some_and o (λ s. not (is_state d s.0))) target;
        },
      );
      moved = ap₂ (λ p s. let made : Scanned = record { definition = d; text = text; place = p; stack = s; most_cells = most_cells_by table text } in made) (sym c.new.ensures.end) (sym (stays stack (rule_at d kind.rule).target target));
      stayed = tt;
    }

pub take_tile-requires-clause-cursor : goal.take_tile-requires-clause-cursor
take_tile-requires-clause-cursor g c = record {
  stands = c.requires.cursor.stands;
  initial = c.requires.cursor.initial;
  rules = c.requires.cursor.rules;
  state = c.requires.cursor.state;
  searcher = c.pass.ensures.searcher c.args.source.now.text.now c.requires.cursor.searcher;
  behind = c.requires.cursor.behind;
  sought = c.requires.cursor.sought;
  worked = λ kept. c.pass.ensures.linear c.args.cursor.now.from (sought_to c.args.cursor.now.place (sought_at c.args.cursor.now.place c.args.cursor.now.sought)) (c.requires.cursor.worked kept);
}

pub take_tile-requires-clause-within : goal.take_tile-requires-clause-within
take_tile-requires-clause-within g c =
    let p = c.args.cursor.now in
    let table = c.args.source.now.table.now in
    let text = c.args.source.now.text.now in
    found_sought g.S.Numbered.number table text p.place p.rules.state (sought_at p.place p.sought) c.requires.cursor.sought (tile_of p.place c.in-Some.found) (c.in-Some.ensures.tile text c.requires.cursor.searcher)
