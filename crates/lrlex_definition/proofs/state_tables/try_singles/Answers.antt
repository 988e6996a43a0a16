use Rattle.std.proofs.Common.{arith}
use Rattle.lrlex_definition.proofs.state_tables.try_singles.Goals as goal

pub places-preserved : goal.places-preserved
places-preserved g c = (
  λ single. c.in_ok-try_single.ensures.cached (c.places.invariant.0 single),
  omega (arith, c.places.invariant.1, c.in_ok-try_single.ensures.paid),
)
