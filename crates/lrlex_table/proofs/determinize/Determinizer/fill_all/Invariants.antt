use Rattle.std.proofs.Common.{◌+◌, ◌≤◌, vec_len}
use Rattle.lrlex_table.specs.Step.{Fits}
use Rattle.lrlex_table.specs.Determinizer.{IsFilledBelow}
use Rattle.lrlex_table.proofs.determinize.Determinizer.fill_all.Given as goal

abbrev pub invariant-rows : goal.invariant-rows
invariant-rows l =
    Fits l.scratch (vec_len l.dfa.nfa.states)
    × IsFilledBelow l.dfa.nfa l.self l.row
    × (l.row + l.budget.rows ≤ l.fn.budget.rows)
