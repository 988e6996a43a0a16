use Rattle.std.proofs.Common.{ap, ◌∙◌}
use Rattle.lrlex_boundaries.specs.Boundaries.{most_entries}
use Rattle.lrlex_boundaries.specs.Ranges.{longest}
use Rattle.lrlex_boundaries.proofs.ArenaLemmas.{longest_is}
use Rattle.lrlex_boundaries.proofs.boundaries.Boundaries.peak.Goals as goal

pub returns : goal.returns
returns c = c.longest.ensures ∙ ap longest c.deref.ensures.value ∙ longest_is c.self.invariant ∙ ap most_entries c.self.view_is
