-- One of the alternatives that are left begins with an earlier one where one of all does.
use Rattle.std.proofs.Common.{◌≡◌, ℕ, ◌+◌, List, length}
use Rattle.std.specs.Option.{option_copied, option_map_or}
use Rattle.lrlex_report.specs.Alternatives.{alternatives, alternatives_left, has_lost}
use Rattle.lrlex_report.proofs.warnings.alternatives.has_lost.Given as goal

abbrev pub invariant-loop-left : goal.invariant-loop-left
invariant-loop-left l = has_lost (alternatives_left (option_copied l.left)) ≡ has_lost (alternatives l.pattern)

-- how much is left
abbrev pub decreases-loop-left : goal.decreases-loop-left
decreases-loop-left l = option_map_or (λ (rest : List ℕ). length rest + 1) (option_copied l.left) 0
