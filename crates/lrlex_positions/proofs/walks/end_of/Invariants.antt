-- no line ends before `at`
use Rattle.std.proofs.Common.{◌≡◌, ℕ, ◌<◌, ◌≤◌, false, get_or}
use Rattle.lrlex_base.specs.Places.{is_newline}
use Rattle.lrlex_positions.specs.Lines.{with_newlines}
use Rattle.lrlex_positions.proofs.walks.end_of.Given as goal

abbrev pub invariant-loop-at : goal.invariant-loop-at
invariant-loop-at l = (i : ℕ) → l.begin ≤ i → i < l.at → is_newline (get_or (with_newlines l.text) i 0) ≡ false
