use Rattle.std.proofs.Common.{◌≡◌, ℕ, ◌+◌, max}
use Rattle.lrlex_definition.specs.RuleTable.{definition_by}
use Rattle.lrlex_rules.specs.Matchers.{AreMatchers}
use Rattle.lrlex_definition.specs.StateTables.{patterns_on}
use Rattle.lrlex_table.specs.Tables.{IsBestAmong}
use Rattle.lrlex.specs.Work.{HasWorked}
use Rattle.lrlex_definition.proofs.TableLemmas.{looked_at}
use Rattle.lrlex.proofs.lexing.winner.winner_with_search.Given as goal

abbrev pub invariant-others : goal.invariant-others
invariant-others g l = record {
  matchers : AreMatchers l.table.rules.items l.matchers;
  counted : l.asked ≡ l.fn.asked + l.index;
  best : IsBestAmong (patterns_on (definition_by g.S.Numbered.number l.table).rules l.active) (looked_at l.tables.parts.items l.tables.asked.items l.index) l.text l.best.rule l.best.len;
  linear : (first : ℕ) → HasWorked l.table first l.fn.from l.fn.ends → HasWorked l.table first (l.fn.from + max 1 l.best.len) l.ends;
}
