use Rattle.std.proofs.Common.{◌≡◌, ◌≤◌, ◌-◌}
use Rattle.lrlex_table.specs.ProductBuilder.{IsPairingOf}
use Rattle.lrlex_table.proofs.product.ProductBuilder.fill.Given as goal

abbrev pub invariant-bytes : goal.invariant-bytes
invariant-bytes l =
    (l.self.first ≡ l.fn.self.first)
    × IsPairingOf l.a l.b l.shift l.self.rows.items l.self.next.items l.self.wins.items l.row l.byte (l.x, l.y)
    × (l.byte ≤ 256)

abbrev pub decreases-bytes : goal.decreases-bytes
decreases-bytes l =
    256 - l.byte
