use Rattle.std.proofs.Common.{rules, of_calls, sym, arith}
use Rattle.std.proofs.lemmas.List.Sorted.{IsPartitionPoint-from_clause}
use Rattle.lrlex.specs.Moves.{begins_before}
use Rattle.lrlex.specs.Views.{item_of}
use Rattle.lrlex.proofs.WithinLemmas.{in_order_of, from_point}
use Rattle.lrlex.proofs.ResumeLemmas.{before_point}
use Rattle.lrlex.proofs.editing.relex.count_before.Goals as goal

pub returns-clause-before : goal.returns-clause-before
returns-clause-before g c =
    let view = item_of g.S.Numbered.number g.X.Lexeme.seen in
    let xs = c.args.items.now in
    let n = c.partition_point.result in
    let point = IsPartitionPoint-from_clause (λ x. begins_before c.args.place (view x)) xs n c.partition_point.ensures.partitioned (in_order_of view c.args.place xs c.requires) (λ a r f k. search (rules, of_calls)) in
    sym (before_point view c.args.place xs n c.partition_point.ensures.bound (λ k d lt. point.0 k d (omega arith) lt) (λ k d ge lt. point.1 k d ge lt))

pub returns-clause-from : goal.returns-clause-from
returns-clause-from g c =
    let view = item_of g.S.Numbered.number g.X.Lexeme.seen in
    let xs = c.args.items.now in
    let n = c.partition_point.result in
    let point = IsPartitionPoint-from_clause (λ x. begins_before c.args.place (view x)) xs n c.partition_point.ensures.partitioned (in_order_of view c.args.place xs c.requires) (λ a r f k. search (rules, of_calls)) in
    sym (from_point view c.args.place xs n c.partition_point.ensures.bound (λ k d lt. point.0 k d (omega arith) lt) (λ k d ge lt. point.1 k d ge lt))
