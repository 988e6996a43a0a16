use Rattle.std.proofs.Common.{◌≡◌, ◌≤◌, ◌++◌}
use Rattle.lrlex_boundaries.specs.Boundaries.{last_entries}
use Rattle.lrlex_table.specs.Ahead.{begin_at}
use Rattle.lrlex.specs.Plain.{boundaries_of}
use Rattle.lrlex.proofs.lexing.plain.enter_all.Given as goal

abbrev pub invariant-tiles : goal.invariant-tiles
invariant-tiles g l = record {
  within : l.at ≤ l.count;
  place : l.place ≡ begin_at l.found.from l.fn.progress.place l.found.marks.now l.at;
  stack : l.progress.stack ≡ l.fn.progress.stack;
  items : l.progress.items ≡ l.fn.progress.items;
  asked : l.progress.asked ≡ l.fn.progress.asked;
  lookahead : l.progress.lookahead ≡ l.fn.progress.lookahead;
  ahead : l.progress.ahead ≡ l.fn.progress.ahead;
  kept : l.progress.boundaries ≡ l.fn.progress.boundaries ++ boundaries_of l.found.from l.found.marks.now (last_entries l.fn.progress.boundaries) l.at;
  last : last_entries l.progress.boundaries ≡ last_entries l.fn.progress.boundaries;
}
