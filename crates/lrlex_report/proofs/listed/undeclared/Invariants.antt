-- The first undeclared name of what is left is that of the list.
use Rattle.std.proofs.Common.{◌≡◌, ℕ, ◌+◌, List, length}
use Rattle.std.specs.Option.{option_copied, option_map_or}
use Rattle.lrlex_parser.specs.RuleLine.{listed_names, names_left}
use Rattle.lrlex_report.specs.Listed.{undeclared}
use Rattle.lrlex_report.proofs.listed.undeclared.Given as goal

abbrev pub invariant-loop-left : goal.invariant-loop-left
invariant-loop-left l = undeclared l.rules (names_left (option_copied l.left)) ≡ undeclared l.rules (listed_names l.names)

-- how much is left
abbrev pub decreases-loop-left : goal.decreases-loop-left
decreases-loop-left l = option_map_or (λ (rest : List ℕ). length rest + 1) (option_copied l.left) 0
