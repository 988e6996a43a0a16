-- the line and the column of the place that `rest` follows
use Rattle.std.proofs.Common.{◌≡◌, ℕ, drop, IsCharBoundary}
use Rattle.lrlex_base.specs.Places.{place_of}
use Rattle.lrlex_positions.proofs.line_cursor.end_place.Given as goal

abbrev pub invariant-loop-c : goal.invariant-loop-c
invariant-loop-c l = (at : ℕ) × IsCharBoundary l.text at × (drop at l.text ≡ l.c-iterator.rest.now) × ((l.line, l.column) ≡ place_of l.text at)
