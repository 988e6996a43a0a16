use Rattle.std.proofs.Common.{refl, arith}
use Rattle.lrlex_boundaries.proofs.ArenaLemmas.{Stay-ranges}
use Rattle.lrlex_boundaries.proofs.boundaries.shared.Goals as goal

pub returns-then-here-before : goal.returns-then-here-before
returns-then-here-before c entries b h =
    Stay-ranges c.min.result (record { range = h; is = refl }) (record { range = b; is = refl }) c.if-here-before.true (omega arith) (omega arith)
