use Rattle.std.proofs.Common.{◌+◌, ◌≤◌, set, arith}
use Rattle.std.proofs.lemmas.List.Sums.{sum_by-set}
use Rattle.std.proofs.lemmas.Result.{IfOk-weaker}
use Rattle.lrlex_table.specs.declared.cached_table.CachedTable.{CachedTable}
use Rattle.lrlex_table.specs.Rows.{table_rows, cached_rows}
use Rattle.lrlex_table.specs.Tables.{AreCached}
use Rattle.lrlex_table.proofs.PartLemmas.{cached_at, cached_set}
use Rattle.lrlex_table.proofs.merged_tables.hand_out_at.Goals as goal

pub returns-then-place-cache-clause-given : goal.returns-then-place-cache-clause-given
returns-then-place-cache-clause-given c pattern cached =
    c.hand_out.ensures.given _ (cached_at pattern c.args.cache.now c.args.place _ c.if-place-cache.true cached)

pub returns-then-place-cache-clause-kept : goal.returns-then-place-cache-clause-kept
returns-then-place-cache-clause-kept c pattern cached =
    let cache = c.args.cache.now in
    let place = c.args.place in
    let lt = c.if-place-cache.true in
    let kept = cached_set pattern cache place c.hand_out.new.self lt cached (c.hand_out.ensures.kept _ (cached_at pattern cache place _ lt cached)) in
    IfOk-weaker c.hand_out.result _ (λ _. AreCached pattern (set cache place c.hand_out.new.self)) (λ o paid. kept) c.hand_out.ensures.paid

pub returns-then-place-cache-clause-paid : goal.returns-then-place-cache-clause-paid
returns-then-place-cache-clause-paid c =
    let cache = c.args.cache.now in
    let place = c.args.place in
    let both = sum_by-set (λ (s : CachedTable). table_rows s.table) cache place c.hand_out.new.self c.index-cache-place.result c.if-place-cache.true in
    IfOk-weaker c.hand_out.result _ (λ o. cached_rows (set cache place c.hand_out.new.self) + table_rows o + c.hand_out.new.budget.rows ≤ cached_rows cache + c.args.budget.now.rows)
    (λ o paid. omega (arith, paid, both)) c.hand_out.ensures.paid
