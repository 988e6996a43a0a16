use Rattle.std.proofs.Common.{rules, Some}
use Rattle.lrlex.proofs.StepsLemmas.{steps_go}
use Rattle.lrlex.proofs.lexing.steps.StepsIterator.next.Goals as goal

pub returns-clause-goes : goal.returns-clause-goes
returns-clause-goes g c = steps_go g.S.Numbered.number c.args.self.now (Some c.next-step.result) _ (search rules)
