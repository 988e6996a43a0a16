-- The warnings of the rules so far are added.
use Rattle.std.proofs.Common.{◌≡◌, ◌++◌, map}
use Rattle.std.specs.Prelude.{All}
use Rattle.lrlex_report.specs.Warnings.{as_answered, as_told, SpanFits, up_to, warnings_at}
use Rattle.lrlex_report.proofs.warnings.push_rules.Given as goal

abbrev pub invariant-rules : goal.invariant-rules
invariant-rules g l = record {
  told : map as_told l.told.items ≡ map as_told l.initial.told.items ++ up_to (warnings_at g.S.Numbered.number l.table (as_answered l.answers) l.fn.rules) l.place;
  fit : All (SpanFits l.fn.rules) l.initial.told.items → All (SpanFits l.fn.rules) l.told.items;
}
