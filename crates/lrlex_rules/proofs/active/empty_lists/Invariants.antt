use Rattle.std.proofs.Common.{◌≡◌, ℕ, [], length, map}
use Rattle.lrlex_rules.specs.RuleLists.{list_in}
use Rattle.lrlex_rules.proofs.active.empty_lists.Given as goal

abbrev pub invariant-lists : goal.invariant-lists
invariant-lists l = record {
  each : length l.lists.items ≡ l.counter;
  empty : (i : ℕ) → list_in (map (λ v. v.items) l.lists.items) i ≡ [];
}
