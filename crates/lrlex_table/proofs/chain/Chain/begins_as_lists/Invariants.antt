use Rattle.std.proofs.Common.{◌≡◌, ◌<◌, ℕ, Some, slice_index_or}
use Rattle.lrlex_table.specs.Table.{next_rows, next_of}
use Rattle.lrlex_table.specs.Chain.{start_of, IsIn, IsOnly, BeginsIn}
use Rattle.lrlex_table.specs.declared.merged_tables.Part.{Part}
use Rattle.lrlex_table.proofs.chain.Chain.begins_as_lists.Given as goal

abbrev pub invariant-lists : goal.invariant-lists
invariant-lists l = record {
  only : (m : ℕ) → m < l.list → IsIn l.self m → (p : Part) × IsOnly l.lists m p;
  classes : (m : ℕ) → m < l.list → IsIn l.self m → (p : Part) → IsOnly l.lists m p → (r b : ℕ) → b < 256 →
      next_of (next_rows p.table) r (Some b) ≡ next_of (next_rows p.table) r (Some (slice_index_or l.firsts b 0));
  begins : (m : ℕ) → m < l.list → IsIn l.self m → (k : ℕ) (p : Part) → IsOnly l.lists k p → BeginsIn p.table k l.self (start_of l.self m);
}
