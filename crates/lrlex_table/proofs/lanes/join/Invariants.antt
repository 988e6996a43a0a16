use Rattle.std.proofs.Common.{◌≡◌, ℕ, ◌+◌, ◌<◌, ◌≤◌, length, get_or}
use Rattle.lrlex_table.specs.Chain.{later, no_mark}
use Rattle.lrlex_table.proofs.lanes.join.Given as goal

abbrev pub invariant-marks : goal.invariant-marks
invariant-marks l = record {
  room : length l.marks ≡ length l.fn.marks;
  before : (k : ℕ) → k < l.at → get_or l.marks k no_mark ≡ get_or l.fn.marks k no_mark;
  behind : (k : ℕ) → k < l.next → get_or l.marks (l.at + k) no_mark ≡ later l.apart (get_or l.fn.marks (l.half + (l.then + k)) no_mark);
  rest : (k : ℕ) → l.half ≤ k → get_or l.marks k no_mark ≡ get_or l.fn.marks k no_mark;
}
