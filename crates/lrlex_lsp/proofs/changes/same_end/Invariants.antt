use Rattle.std.proofs.Common.{◌≡◌, ◌-◌, ◌≤◌, length, drop}
use Rattle.lrlex_lsp.proofs.changes.same_end.Given as goal

abbrev pub invariant-end : goal.invariant-end
invariant-end l = (l.count ≤ length l.old) × (l.count ≤ length l.new)
    × (drop (length l.old - l.count) l.old ≡ drop (length l.new - l.count) l.new)

abbrev pub decreases-end : goal.decreases-end
decreases-end l = length l.old - l.count
