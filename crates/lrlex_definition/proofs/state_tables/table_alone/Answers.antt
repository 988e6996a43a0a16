use Rattle.lrlex_definition.proofs.ServedLemmas.{alone_serves}
use Rattle.lrlex_definition.proofs.state_tables.table_alone.Goals as goal

pub returns-clause-table : goal.returns-clause-table
returns-clause-table g c = alone_serves (λ _. 0) c.in_ok-table.table _ c.args.rule.now c.regex.ensures.alike c.in_ok-table.ensures.table
