use Rattle.std.proofs.Common.{◌≤◌}
use Rattle.lrlex_table.proofs.chaining.chain_for.Given as goal

abbrev pub invariant-fewer : goal.invariant-fewer
invariant-fewer l = l.budget.rows ≤ l.fn.budget.rows

abbrev pub decreases-fewer : goal.decreases-fewer
decreases-fewer l = l.many
