use Rattle.std.proofs.Common.{◌∙◌, arith}
use Rattle.lrlex_boundaries.proofs.ArenaLemmas.{within_places, place_is}
use Rattle.lrlex_boundaries.proofs.boundaries.Boundaries.place.Goals as goal

pub index-requires : goal.index-requires
index-requires c = omega (arith, within_places c.self.inside.entries.items c.self.inside.stretches.items _ _ _ c.self.view_is c.requires)

pub returns : goal.returns
returns c = c.index.ensures ∙ place_is c.self.inside.entries.items c.self.inside.stretches.items _ _ _ c.index.result.now c.self.view_is c.requires
