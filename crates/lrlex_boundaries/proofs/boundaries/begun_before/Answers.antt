use Rattle.std.proofs.Common.{rules, of_calls, ◌+◌, ◌<◌, ltb, length-take-le, length-drop, ap, ◌∙◌, arith}
use Rattle.std.proofs.lemmas.Bool.{ltb-true, ltb-false}
use Rattle.std.proofs.lemmas.List.{get_or-take, get_or-drop}
use Rattle.std.proofs.lemmas.List.Sorted.{IsPartitionPoint-from_clause}
use Rattle.lrlex_boundaries.specs.declared.stretch.Stretch.{Stretch}
use Rattle.lrlex_boundaries.proofs.StretchLemmas.{before_partitioned}
use Rattle.lrlex_boundaries.proofs.boundaries.begun_before.Goals as goal

pub returns : goal.returns
returns c =
    let p = λ (s : Stretch). ltb s.from c.args.index in
    let ss = c.args.stretches.now in
    let n = c.partition_point.result in
    let point = IsPartitionPoint-from_clause p ss n c.partition_point.ensures.partitioned (before_partitioned ss c.args.index c.requires) (λ a r f h. search (rules, of_calls)) in
    record {
      within = c.partition_point.ensures.bound;
      before = λ k d lt.
          let below : k < n = omega (arith, length-take-le n ss c.partition_point.ensures.bound) in
          ltb-true _ _ (ap p (get_or-take n ss k d below) ∙ point.0 k d (omega arith) below);
      behind = λ k d lt. ltb-false _ _ (ap p (get_or-drop n ss k d) ∙ point.1 (n + k) d (omega arith) (omega (arith, length-drop n ss)));
    }
