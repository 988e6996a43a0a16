use Rattle.lrlex_table.specs.Determinizer.{AskForStartsBelow}
use Rattle.lrlex_table.proofs.determinize.asks_for_starts.Given as goal

abbrev pub invariant-states : goal.invariant-states
invariant-states l =
    AskForStartsBelow l.nfa l.q
