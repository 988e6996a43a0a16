-- The warnings of the tests so far are added.
use Rattle.std.proofs.Common.{◌≡◌, ◌++◌, ℕ, List, map, take}
use Rattle.std.specs.Prelude.{All}
use Rattle.lrlex_base.specs.Spans.{Fits, as_span}
use Rattle.lrlex_report.specs.Warnings.{as_told, SpanFits, those_that_hold}
use Rattle.lrlex_report.proofs.warnings.kinds.push_all.Given as goal

abbrev pub invariant-tests : goal.invariant-tests
invariant-tests l = record {
  told : map as_told l.told.items ≡ map as_told l.initial.told.items ++ those_that_hold (as_span l.span) (take l.test-index l.tests);
  fit : (text : List ℕ) → Fits text l.span → All (SpanFits text) l.initial.told.items → All (SpanFits text) l.told.items;
}
