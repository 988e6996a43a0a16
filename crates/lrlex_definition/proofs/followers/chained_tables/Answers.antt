use Rattle.std.proofs.Common.{◌+◌, ◌≤◌, sym, subst}
use Rattle.lrlex_table.specs.Rows.{rows_held}
use Rattle.lrlex_definition.proofs.followers.chained_tables.Goals as goal

pub invariant_of-of : goal.invariant_of-of
invariant_of-of g c = record { at_places = c.requires }

pub returns-clause-served : goal.returns-clause-served
returns-clause-served g c = c.in_ok-tables.ensures.served

pub returns-clause-each : goal.returns-clause-each
returns-clause-each g c = c.in_ok-tables.ensures.each

pub returns-clause-chained : goal.returns-clause-chained
returns-clause-chained g c = c.in_ok-chains.ensures.all c.in_ok-tables.tables.items c.in_ok-tables.ensures.chained

pub returns-clause-paid : goal.returns-clause-paid
returns-clause-paid g c = subst (λ n. rows_held c.in_ok-tables.tables.items + n ≤ c.args.budget.rows) (sym c.in_ok-chains.ensures.rows) c.in_ok-tables.ensures.paid
