use Rattle.std.proofs.Common.{ℕ, ◌+◌, ◌≤◌, map, Result, IfOk, arith}
use Rattle.std.proofs.lemmas.Result.{IfOk-weaker}
use Rattle.std.specs.declared.alloc.AllocError.{AllocError}
use Rattle.lrlex_table.specs.Rows.{cached_rows, tables_rows}
use Rattle.lrlex_table.specs.declared.tables.Tables.{Tables}
use Rattle.lrlex_rules.specs.RuleParts.{as_rule}
use Rattle.lrlex_definition.specs.StateTables.{pattern_in, patterns_on}
use Rattle.lrlex_definition.proofs.state_tables.+tables_from.Goals as goal

pub returns-then-to-from-le-RULES_AT_ONCE-clause-tables : goal.returns-then-to-from-le-RULES_AT_ONCE-clause-tables
returns-then-to-from-le-RULES_AT_ONCE-clause-tables g t c single =
    c.tables_between.ensures.tables (pattern_in (map (as_rule (λ x. 0)) c.args.rules.now)) (c.in_ok-try_singles.ensures.cached single)

pub returns-then-to-from-le-RULES_AT_ONCE-clause-kept : goal.returns-then-to-from-le-RULES_AT_ONCE-clause-kept
returns-then-to-from-le-RULES_AT_ONCE-clause-kept g t c single =
    c.tables_between.ensures.kept (pattern_in (map (as_rule (λ x. 0)) c.args.rules.now)) (c.in_ok-try_singles.ensures.cached single)

pub returns-clause-tables : goal.returns-clause-tables
returns-clause-tables g t c single =
    c.joined_tables.ensures.tables (patterns_on (map (as_rule (λ x. 0)) c.args.rules.now) c.args.places.now) _ _ _
    (c.in_ok-left.ensures.tables single) (c.in_ok-right.ensures.tables (c.in_ok-left.ensures.kept single))

paid_at_once : (r : Result Tables AllocError) (cached left before after : ℕ) → before ≤ after →
    IfOk r (λ t. cached + tables_rows t + left ≤ before) → IfOk r (λ t. cached + tables_rows t + left ≤ after)
paid_at_once r cached left before after more =
    IfOk-weaker r (λ t. cached + tables_rows t + left ≤ before) (λ t. cached + tables_rows t + left ≤ after) (λ t le. omega arith)

paid_joined : (r : Result Tables AllocError) (cached left before after : ℕ) → cached + before ≤ after →
    IfOk r (λ t. tables_rows t + left ≤ before) → IfOk r (λ t. cached + tables_rows t + left ≤ after)
paid_joined r cached left before after more =
    IfOk-weaker r (λ t. tables_rows t + left ≤ before) (λ t. cached + tables_rows t + left ≤ after) (λ t le. omega arith)

pub returns-then-to-from-le-RULES_AT_ONCE-clause-paid : goal.returns-then-to-from-le-RULES_AT_ONCE-clause-paid
returns-then-to-from-le-RULES_AT_ONCE-clause-paid g t c =
    paid_at_once c.tables_between.result (cached_rows c.tables_between.new.cache) c.tables_between.new.budget.rows (cached_rows c.try_singles.new.singles + c.put_back.new.self.rows)
    (cached_rows c.args.singles.now + c.args.budget.now.rows)
    (omega (arith, c.in_ok-try_singles.ensures.paid, c.put_back.ensures.most, c.set_aside-joining.ensures.rows)) c.tables_between.ensures.paid

pub returns-clause-paid : goal.returns-clause-paid
returns-clause-paid g t c =
    paid_joined c.joined_tables.result (cached_rows c.tables_from-2.new.singles) c.joined_tables.new.budget.rows (tables_rows c.in_ok-left.left + tables_rows c.in_ok-right.right + c.tables_from-2.new.budget.rows)
    (cached_rows c.args.singles.now + c.args.budget.now.rows)
    (omega (arith, c.in_ok-left.ensures.paid, c.in_ok-right.ensures.paid)) c.joined_tables.ensures.paid
