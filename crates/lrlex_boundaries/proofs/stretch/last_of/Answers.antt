use Rattle.std.proofs.Common.{sym}
use Rattle.lrlex_boundaries.specs.Ranges.{no_stretch}
use Rattle.lrlex_boundaries.proofs.StretchLemmas.{last_stretch-some}
use Rattle.lrlex_boundaries.proofs.stretch.last_of.Goals as goal

pub returns-in-Some : goal.returns-in-Some
returns-in-Some c = sym (last_stretch-some no_stretch c.in-Some.stretch.now c.args.stretches.now (sym c.in-Some.ensures.value))
