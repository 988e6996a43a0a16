-- The rules so far have their places as ids.
use Rattle.std.proofs.Common.{◌≡◌, ℕ, ◌<◌, Some, slice_get}
use Rattle.lrlex_rules.specs.RuleParts.{RuleParts}
use Rattle.lrlex_rules.specs.Ids.{HasOwnId}
use Rattle.lrlex_rules.proofs.names.have_own_ids.Given as goal

abbrev pub invariant-rules : goal.invariant-rules
invariant-rules g l = (i : ℕ) (r : RuleParts g.row.S.Denot) → i < l.index → slice_get l.rules i ≡ Some r → HasOwnId g.S.Numbered.number g.S.Numbered.greatest r i
