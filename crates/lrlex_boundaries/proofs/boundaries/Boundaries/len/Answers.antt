use Rattle.std.proofs.Common.{length, ap, arith}
use Rattle.lrlex_boundaries.proofs.ArenaLemmas.{length-boundaries_from}
use Rattle.lrlex_boundaries.proofs.boundaries.Boundaries.len.Goals as goal

pub returns : goal.returns
returns c = omega (arith, length-boundaries_from c.self.inside.entries.items c.self.inside.stretches.items 0 c.self.inside.places.items, ap length c.self.view_is)
