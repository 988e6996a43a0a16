use Rattle.std.proofs.Common.{◌≡◌, ◌-◌, ◌≤◌, length, take}
use Rattle.lrlex_lsp.proofs.changes.same_front.Given as goal

abbrev pub invariant-front : goal.invariant-front
invariant-front l = (l.count ≤ length l.old) × (l.count ≤ length l.new) × (take l.count l.old ≡ take l.count l.new)

abbrev pub decreases-front : goal.decreases-front
decreases-front l = length l.old - l.count
