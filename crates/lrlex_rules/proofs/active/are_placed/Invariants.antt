use Rattle.std.proofs.Common.{◌≡◌, ℕ, ◌<◌, Some, slice_get}
use Rattle.lrlex_rules.specs.RuleParts.{as_state}
use Rattle.lrlex_rules.specs.declared.states.StartState as start
use Rattle.lrlex_rules.proofs.active.are_placed.Given as goal

abbrev pub invariant-states : goal.invariant-states
invariant-states l = (i : ℕ) (s : start.StartState) → i < l.index → slice_get l.states i ≡ Some s → (as_state s).id ≡ i
