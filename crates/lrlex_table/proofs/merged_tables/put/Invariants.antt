use Rattle.std.proofs.Common.{◌≡◌, ◌≤◌}
use Rattle.lrlex_table.proofs.merged_tables.put.Given as goal

abbrev pub invariant-parts : goal.invariant-parts
invariant-parts l =
    (l.parts ≡ l.fn.parts) × (l.budget.rows ≤ l.fn.budget.rows)
