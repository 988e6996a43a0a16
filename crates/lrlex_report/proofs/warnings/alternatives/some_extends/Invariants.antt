-- One of the alternatives that are left begins with this one where one of all does.
use Rattle.std.proofs.Common.{◌≡◌, ℕ, ◌+◌, List, length}
use Rattle.std.specs.List.{list_any}
use Rattle.std.specs.Option.{option_copied, option_map_or}
use Rattle.lrlex_report.specs.Alternatives.{alternatives_left, extends}
use Rattle.lrlex_report.proofs.warnings.alternatives.some_extends.Given as goal

abbrev pub invariant-loop-left : goal.invariant-loop-left
invariant-loop-left l = list_any (λ other. extends l.part other) (alternatives_left (option_copied l.left)) ≡ list_any (λ other. extends l.part other) (alternatives_left (option_copied l.initial.left))

-- how much is left
abbrev pub decreases-loop-left : goal.decreases-loop-left
decreases-loop-left l = option_map_or (λ (rest : List ℕ). length rest + 1) (option_copied l.left) 0
