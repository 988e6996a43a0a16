use Rattle.std.proofs.Common.{◌≡◌, ◌-◌, length, slice_range, IsCharBoundary}
use Rattle.lrlex.specs.Reach.{Reached}
use Rattle.lrlex.specs.Lookahead.{HasLooked}
use Rattle.lrlex_definition.specs.RuleTable.{AreOf}
use Rattle.lrlex.specs.Searcher.{IsSearcherOf}
use Rattle.lrlex.specs.Searches.{asks_by}
use Rattle.lrlex_definition.specs.RuleTable.{definition_by}
use Rattle.lrlex.specs.Views.{items_by}
use Rattle.lrlex.specs.Work.{HasWorked}
use Rattle.lrlex.proofs.lexing.run.lex.Given as goal

abbrev pub invariant-tiles : goal.invariant-tiles
invariant-tiles g l = record {
  searcher : IsSearcherOf l.table l.text l.searcher;
  rules : AreOf g.S.Numbered.number l.table l.rules.state l.rules;
  boundary : IsCharBoundary l.text l.progress.place;
  reached : Reached (definition_by g.S.Numbered.number l.table) l.text l.progress.place l.progress.stack.items (items_by g.S.Numbered.number g.X.Lexeme.seen l.progress.items.items) l.progress.boundaries l.progress.asked;
  looked : HasLooked (definition_by g.S.Numbered.number l.table) l.text l.progress.boundaries l.progress.ahead.items l.progress.place l.progress.lookahead;
  exact : l.progress.asked ≡ asks_by l.table l.text (slice_range l.progress.boundaries 0 (length l.progress.boundaries - 1));
  linear : HasWorked l.table 0 l.progress.place l.searcher.ends;
}

abbrev pub decreases-tiles : goal.decreases-tiles
decreases-tiles g l = length l.text - l.progress.place
