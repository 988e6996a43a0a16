use Rattle.std.proofs.Common.{◌≡◌, ℕ, ◌+◌, ◌++◌, List, length}
use Rattle.std.specs.Option.{option_map, option_copied, option_map_or}
use Rattle.lrlex_parser.specs.RuleLine.{state_ids, listed_names, names_left}
use Rattle.lrlex_parser.specs.LexParser.{as_states}
use Rattle.lrlex_parser.proofs.rule_line.state_ids.Given as goal

-- the ids so far and those of what is left are all the ids
abbrev pub invariant-loop-left : goal.invariant-loop-left
invariant-loop-left l = option_map (λ (more : List ℕ). l.ids.items ++ more) (state_ids (as_states l.states) (names_left (option_copied l.left))) ≡ state_ids (as_states l.states) (listed_names l.names)

abbrev pub decreases-loop-left : goal.decreases-loop-left
decreases-loop-left l = option_map_or (λ (rest : List ℕ). length rest + 1) (option_copied l.left) 0
