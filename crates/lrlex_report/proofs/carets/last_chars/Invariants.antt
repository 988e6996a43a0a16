-- `before` is what stands before the last characters, as many as `counter`.
use Rattle.lrlex_report.proofs.CaretLemmas.{IsBefore}
use Rattle.lrlex_report.proofs.carets.last_chars.Given as goal

abbrev pub invariant-last : goal.invariant-last
invariant-last l = IsBefore l.text l.counter l.before
