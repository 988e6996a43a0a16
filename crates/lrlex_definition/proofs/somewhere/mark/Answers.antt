use Rattle.lrlex_definition.proofs.MarkLemmas.{marked_at, marked_past}
use Rattle.lrlex_definition.proofs.somewhere.mark.Goals as goal

pub returns-then-place-marks-clause-marked : goal.returns-then-place-marks-clause-marked
returns-then-place-marks-clause-marked c k lt = marked_at c.args.marks.now c.args.place k c.if-place-marks.true

pub returns-else-place-marks-clause-marked : goal.returns-else-place-marks-clause-marked
returns-else-place-marks-clause-marked c k lt = marked_past c.args.marks.now c.args.place k lt c.if-place-marks.false
