use Rattle.lrlex_table.specs.Determinizer.{StepsFrom}
use Rattle.lrlex_table.proofs.determinize.step_from.Goals as goal

pub returns-in-Ok-clause-steps : goal.returns-in-Ok-clause-steps
unfolding StepsFrom
returns-in-Ok-clause-steps c test agrees =
    c.in-Ok.ensures.moves test agrees
