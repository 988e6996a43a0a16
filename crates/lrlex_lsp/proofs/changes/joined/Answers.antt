use Rattle.std.proofs.Common.{◌≡◌, ◌≤◌, ◌+◌, ◌-◌, length, arith}
use Rattle.lrlex_lsp.proofs.ChangeLemmas.{joins, same_rest}
use Rattle.lrlex_lsp.proofs.changes.joined.Goals as goal

pub returns : goal.returns
returns c old mid new o m n h k =
    let one = c.args.one in
    let other = c.args.other in
    let end = c.max-end.result in
    let low = c.min-first.ensures in
    let one_end : c.saturating_add-one_end.result ≡ one.first + one.inserted = omega (arith, c.saturating_add-one_end.ensures, h.in_new, m) in
    let other_end : c.saturating_add-other_end.result ≡ other.first + other.removed = omega (arith, c.saturating_add-other_end.ensures, k.in_old, m) in
    let from : one.first + one.inserted ≤ end = omega (arith, c.max-end.ensures, one_end) in
    let from' : other.first + other.removed ≤ end = omega (arith, c.max-end.ensures, other_end) in
    let within : end ≤ length mid = omega (arith, c.max-end.ensures, one_end, other_end, h.in_new, k.in_old) in
    let in_old : one.first + one.removed + (end - (one.first + one.inserted)) ≤ length old = omega (arith, within, from, same_rest one old mid h, h.in_old, h.in_new) in
    let in_new : other.first + other.inserted + (end - (other.first + other.removed)) ≤ length new = omega (arith, within, from', same_rest other mid new k, k.in_old, k.in_new) in
    let removed : c.saturating_add-2.result ≡ one.first + one.removed + (end - (one.first + one.inserted)) =
    omega (arith, c.saturating_add.ensures, c.saturating_add-2.ensures, one_end, in_old, o) in
    let inserted : c.saturating_add-4.result ≡ other.first + other.inserted + (end - (other.first + other.removed)) =
    omega (arith, c.saturating_add-3.ensures, c.saturating_add-4.ensures, other_end, in_new, n) in
    joins one other _ old mid new end h k (omega (arith, low)) (omega (arith, low)) within from from'
    (omega (arith, c.saturating_sub.ensures, removed, low)) (omega (arith, c.saturating_sub-2.ensures, inserted, low))
