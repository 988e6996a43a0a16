-- none before `at`
use Rattle.std.proofs.Common.{◌≡◌, ℕ, ◌+◌, ◌<◌, ◌≤◌, false, drop, get_or}
use Rattle.lrlex_positions.specs.Lines.{is_lone_return}
use Rattle.lrlex_positions.proofs.lines.has_lone_return.Given as goal

abbrev pub invariant-loop-at : goal.invariant-loop-at
invariant-loop-at l = (i : ℕ) → l.from ≤ i → i < l.at → is_lone_return (get_or l.text i 0) (drop (i + 1) l.text) ≡ false
