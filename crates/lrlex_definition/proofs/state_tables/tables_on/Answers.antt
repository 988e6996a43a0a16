use Rattle.std.proofs.Common.{◌+◌, ◌≤◌, arith}
use Rattle.std.proofs.lemmas.Result.{IfOk-weaker}
use Rattle.lrlex_table.specs.Rows.{cached_rows, tables_rows}
use Rattle.lrlex_table.specs.declared.tables.Tables.{Tables}
use Rattle.lrlex_definition.proofs.state_tables.tables_on.Goals as goal

pub returns-clause-paid : goal.returns-clause-paid
returns-clause-paid g c =
    IfOk-weaker c.tables_from.result (λ (t : Tables). cached_rows c.tables_from.new.singles + tables_rows t + c.tables_from.new.budget.rows ≤ cached_rows c.args.singles.now + c.pay_work.new.self.rows)
    (λ (t : Tables). cached_rows c.tables_from.new.singles + tables_rows t + c.tables_from.new.budget.rows ≤ cached_rows c.args.singles.now + c.args.budget.now.rows)
    (λ t le. omega (arith, c.pay_work.ensures.rows)) c.tables_from.ensures.paid
