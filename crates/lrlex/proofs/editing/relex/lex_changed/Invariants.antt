use Rattle.std.proofs.Common.{ℕ, ◌+◌, ◌-◌, ◌<◌, ◌≤◌, max, length}
use Rattle.lrlex_boundaries.specs.Boundaries.{boundary_at}
use Rattle.lrlex_definition.specs.RuleTable.{AreOf}
use Rattle.lrlex.specs.Searcher.{IsSearcherOf}
use Rattle.lrlex.specs.Work.{HasWorked}
use Rattle.lrlex.proofs.RecutLemmas.{AreCut}
use Rattle.lrlex.proofs.editing.relex.lex_changed.Given as goal

abbrev pub invariant-tiles : goal.invariant-tiles
invariant-tiles g l = record {
  searcher : IsSearcherOf l.table l.new l.searcher;
  rules : AreOf g.S.Numbered.number l.table l.rules.state l.rules;
  cut : AreCut g.S.Numbered.number g.X.Lexeme.seen l.table l.old.items.now l.old.boundaries.now l.old.ahead.now l.edit.removed l.edit.put.now l.new l.index l.progress;
  cursor : l.cursor ≤ length l.old.boundaries.now;
  behind : (j : ℕ) → j < l.cursor → (boundary_at l.old.boundaries.now j).place + (l.edit.removed.start + length l.edit.put.now) < max l.progress.place (l.edit.removed.start + length l.edit.put.now) + l.edit.removed.end;
  worked : HasWorked l.table (boundary_at l.old.boundaries.now l.index).place l.progress.place l.searcher.ends;
}

abbrev pub decreases-tiles : goal.decreases-tiles
decreases-tiles g l = length l.new - l.progress.place
