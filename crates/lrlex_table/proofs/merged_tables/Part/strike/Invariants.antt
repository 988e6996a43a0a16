use Rattle.lrlex_table.proofs.NeverLemmas.{IsStriking}
use Rattle.lrlex_table.proofs.merged_tables.Part.strike.Given as goal

abbrev pub invariant-patterns : goal.invariant-patterns
invariant-patterns l = IsStriking l.self l.fn.may_win l.at l.may_win
