use Rattle.std.proofs.Common.{◌≡◌, ◌+◌, ◌≤◌, ◌++◌, length, take, vec_len, vec_capacity}
use Rattle.lrlex_boundaries.proofs.room.splice.Given as goal

abbrev pub invariant-more : goal.invariant-more
invariant-more g l = record {
  items : l.list.items ≡ l.initial.list.items ++ take l.index l.between;
  room : vec_len l.list + length l.between ≤ vec_capacity l.list + l.index;
}
