use Rattle.std.proofs.Common.{vec_len}
use Rattle.lrlex_table.specs.Step.{Fits}
use Rattle.lrlex_table.specs.Determinizer.{IsFillingBy}
use Rattle.lrlex_table.proofs.determinize.Determinizer.fill.Given as goal

abbrev pub invariant-bytes : goal.invariant-bytes
invariant-bytes l =
    Fits l.scratch (vec_len l.dfa.nfa.states)
    × IsFillingBy l.dfa l.self l.row l.byte l.threads.items l.matched l.led
