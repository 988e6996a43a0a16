use Rattle.std.proofs.Common.{List, [], ◌∷◌, ◌++◌, ap, ◌∙◌}
use Rattle.lrlex_boundaries.specs.Boundaries.{Boundary, last_entries}
use Rattle.lrlex_boundaries.proofs.ArenaLemmas.{in_order_repeat, bounds_repeat}
use Rattle.lrlex_boundaries.proofs.boundaries.Boundaries.repeat.Goals as goal

pub invariant_of-self-2 : goal.invariant_of-self-2
invariant_of-self-2 c = in_order_repeat c.args.place c.in_ok-append.ensures.items c.self.invariant

pub returns : goal.returns
returns c =
    bounds_repeat c.args.place c.in_ok-append.ensures.items c.self.invariant
    ∙ ap (λ (ms : List Boundary). ms ++ record { place = c.args.place; entries = last_entries ms } ∷ []) c.self.view_is
