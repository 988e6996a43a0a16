use Rattle.std.proofs.Common.{length, sym, subst, ◌∙◌, ap}
use Rattle.lrlex_boundaries.specs.Ranges.{IsRange, entries_of}
use Rattle.lrlex_boundaries.proofs.ArenaLemmas.{range_is}
use Rattle.lrlex_boundaries.proofs.boundaries.Boundaries.stack.Goals as goal

pub range_of-requires : goal.range_of-requires
range_of-requires c =
    subst (λ entries. IsRange (length entries) c.stretch_of.result) (sym c.deref.ensures.value) (range_is c.args.index c.self.invariant c.self.view_is c.requires c.stretch_of.ensures c.deref-2.ensures.value).range

pub returns : goal.returns
returns c =
    c.range_of.ensures ∙ ap (λ entries. entries_of entries c.stretch_of.result) c.deref.ensures.value
    ∙ (range_is c.args.index c.self.invariant c.self.view_is c.requires c.stretch_of.ensures c.deref-2.ensures.value).is
