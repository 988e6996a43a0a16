use Rattle.std.proofs.Common.{◌∙◌, sym}
use Rattle.lrlex_boundaries.proofs.StretchLemmas.{stretch_at-begun}
use Rattle.lrlex_boundaries.proofs.boundaries.stretch_of.Goals as goal

pub returns : goal.returns
returns c = c.last_of.ensures ∙ sym (stretch_at-begun c.begun.ensures)
