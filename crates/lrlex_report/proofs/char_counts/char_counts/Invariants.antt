-- The characters up to `from` are counted, and so are those before each place so far.
use Rattle.std.proofs.Common.{◌≡◌, ◌≤◌, ◌*◌, map, IsCharBoundary}
use Rattle.std.specs.List.{range_with_len}
use Rattle.lrlex_report.specs.CharCounts.{chars_before}
use Rattle.lrlex_report.specs.PlaceTexts.{nearest}
use Rattle.lrlex_report.proofs.char_counts.char_counts.Given as goal

abbrev pub invariant-loop-k : goal.invariant-loop-k
invariant-loop-k l = IsCharBoundary l.text l.from × (l.from ≤ l.k * 128) × (l.before ≡ chars_before l.text l.from)
    × (l.counts.items ≡ map (λ k. chars_before l.text (nearest l.text (k * 128))) (range_with_len 0 l.k))
