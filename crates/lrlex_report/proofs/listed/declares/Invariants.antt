-- The words of what is left declare the name where those of the text do, and no more is left than the text has.
use Rattle.std.proofs.Common.{◌≡◌, ℕ, ◌+◌, ◌≤◌, List, length, IfSome}
use Rattle.std.specs.Option.{option_copied, option_map_or}
use Rattle.lrlex_base.specs.Classes.{is_white_space}
use Rattle.lrlex_parser.specs.Text.{cut, piece, pieces_left}
use Rattle.lrlex_report.specs.Listed.{declares}
use Rattle.lrlex_report.proofs.listed.declares.Given as goal

abbrev pub invariant-loop-left : goal.invariant-loop-left
invariant-loop-left l = record {
  same : declares l.name (pieces_left is_white_space (length l.text) (option_copied l.left)) ≡ declares l.name (cut is_white_space (piece 0 l.text));
  within : IfSome (option_copied l.left) (λ (rest : List ℕ). length rest ≤ length l.text);
}

-- how much is left
abbrev pub decreases-loop-left : goal.decreases-loop-left
decreases-loop-left l = option_map_or (λ (rest : List ℕ). length rest + 1) (option_copied l.left) 0
