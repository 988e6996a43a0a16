-- what stands in front of `fed` was fed, and none ends a line alone from there to `at`
use Rattle.std.proofs.Common.{◌≡◌, ℕ, ◌+◌, ◌<◌, ◌≤◌, false, drop, take, get_or, IsCharBoundary}
use Rattle.lrlex_base.specs.Places.{AreBreaksOf}
use Rattle.lrlex_positions.specs.Lines.{is_lone_return, with_newlines}
use Rattle.lrlex_positions.proofs.lines.kept.Given as goal

abbrev pub invariant-loop-at : goal.invariant-loop-at
invariant-loop-at l =
    (l.fed ≤ l.at) × IsCharBoundary l.text l.fed × AreBreaksOf (take l.fed (with_newlines l.text)) l.lines
    × ((i : ℕ) → l.fed ≤ i → i < l.at → is_lone_return (get_or l.text i 0) (drop (i + 1) l.text) ≡ false)
