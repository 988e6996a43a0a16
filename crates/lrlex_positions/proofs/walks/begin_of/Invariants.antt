-- `left` is how many lines end from `i` on and before the line of the number
use Rattle.std.proofs.Common.{◌≡◌, ◌+◌, ◌<◌, take}
use Rattle.std.specs.List.{count_by}
use Rattle.lrlex_base.specs.Places.{is_newline}
use Rattle.lrlex_positions.specs.Lines.{with_newlines}
use Rattle.lrlex_positions.proofs.walks.begin_of.Given as goal

abbrev pub invariant-loop-i : goal.invariant-loop-i
invariant-loop-i l = (0 < l.left) × (l.left + count_by is_newline (take l.i (with_newlines l.text)) ≡ l.line)
