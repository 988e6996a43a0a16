use Rattle.std.proofs.Common.{◌==◌}
use Rattle.lrlex_definition.proofs.MarkLemmas.{mark_more}
use Rattle.lrlex_definition.proofs.somewhere.mark_all.Goals as goal

pub places-preserved : goal.places-preserved
places-preserved c =
    mark_more (λ k j. j == k) c.args.marks.now c.places.marks c.mark.new.marks c.args.places.now c.places.at c.places-test.true c.places.invariant c.mark.ensures.len c.mark.ensures.marked
