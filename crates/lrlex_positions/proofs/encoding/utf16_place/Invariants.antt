-- what stands in front of `at` was counted, `rest` is what follows, and `left` is what the column has left
use Rattle.std.proofs.Common.{◌≡◌, ◌+◌, take, drop, IsCharBoundary}
use Rattle.std.specs.Str.Iter.{chars_rest}
use Rattle.lrlex_positions.specs.Columns.{width}
use Rattle.lrlex_positions.specs.declared.encoding.PositionEncoding.TheVariants.{Utf16}
use Rattle.lrlex_positions.proofs.encoding.utf16_place.Given as goal

abbrev pub invariant-loop-c : goal.invariant-loop-c
invariant-loop-c l = IsCharBoundary l.line l.at × (drop l.at l.line ≡ chars_rest l.rest) × (width Utf16 (take l.at l.line) + l.left ≡ l.column)
