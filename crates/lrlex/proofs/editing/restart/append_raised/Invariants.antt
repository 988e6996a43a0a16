use Rattle.lrlex.specs.Lookahead.{AreRaised}
use Rattle.lrlex.proofs.editing.restart.append_raised.Given as goal

abbrev pub invariant-near : goal.invariant-near
invariant-near l = AreRaised l.old l.numbers l.index l.lookahead l.next l.fn.ahead.items l.ahead.items
