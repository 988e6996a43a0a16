use Rattle.std.proofs.Common.{length, ◌-◌, ◌≡◌, ◌≤◌, ◌++◌, drop}
use Rattle.lrlex_rules.specs.Active.{merged}
use Rattle.lrlex_rules.proofs.active.merged_places.Given as goal

abbrev pub invariant-below : goal.invariant-below
invariant-below l = record {
  within : l.next ≤ length l.others;
  so_far : l.places.items ++ merged (drop l.place-index l.some) (drop l.next l.others) ≡ merged l.some l.others;
}

abbrev pub decreases-below : goal.decreases-below
decreases-below l = length l.others - l.next

abbrev pub invariant-some : goal.invariant-some
invariant-some l = record {
  within : l.next ≤ length l.others;
  so_far : l.places.items ++ merged (drop l.place-index l.some) (drop l.next l.others) ≡ merged l.some l.others;
}
