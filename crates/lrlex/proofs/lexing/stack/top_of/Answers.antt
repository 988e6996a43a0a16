use Rattle.lrlex.proofs.EntryLemmas.{top_of_last}
use Rattle.lrlex.proofs.lexing.stack.top_of.Goals as goal

pub returns-in-Some : goal.returns-in-Some
returns-in-Some c = top_of_last c.args.entries.now c.in-Some.field-0.now c.requires c.in-Some.ensures.value
