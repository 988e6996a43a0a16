use Rattle.std.proofs.Common.{rules, of_calls, ◌≡◌, ◌≤◌, length, get_or, true, false, leb, sym, subst, arith, List, ℕ}
use Rattle.std.specs.List.Sorted.{IsPartitionedBy}
use Rattle.std.proofs.lemmas.List.Sorted.{IsPartitionPoint-from_clause}
use Rattle.lrlex_base.specs.Places.{newlines_from, starts_after}
use Rattle.lrlex_base.proofs.NewlineLemmas.{starts_partitioned, begun_is}
use Rattle.lrlex_base.proofs.newlines.lines_begun.Goals as goal

pub returns-clause-count : goal.returns-clause-count
returns-clause-count c text h e =
    let p = λ (s : ℕ). leb s c.args.at in
    let in_order : IsPartitionedBy p c.args.starts.now = subst (IsPartitionedBy p) (sym e) (starts_partitioned text c.args.at h) in
    let point = IsPartitionPoint-from_clause p c.args.starts.now c.partition_point.result c.partition_point.ensures.partitioned in_order (λ a r f k. search (rules, of_calls)) in
    let S = starts_after (newlines_from 0 text) in
    let P : List ℕ → Type 0 = λ l. c.partition_point.result ≤ length l in
    begun_is text c.args.at c.partition_point.result h (subst P e c.partition_point.ensures.bound)
    (λ k l. subst (λ m. leb (get_or m k 0) c.args.at ≡ true) e (point.0 k 0 (omega arith) l))
    (λ k l m. subst (λ z. leb (get_or z k 0) c.args.at ≡ false) e (point.1 k 0 l (rw e m)))
