use Rattle.std.proofs.Common.{◌++◌, ap, sym}
use Rattle.lrlex_cli.specs.Scanning.{stop_line}
use Rattle.lrlex_cli.proofs.WritingLemmas.{passes_as, passes_nothing}
use Rattle.lrlex_cli.proofs.lines.pass_stop.Goals as goal

pub returns-in-Some : goal.returns-in-Some
unfolding stop_line
returns-in-Some g c = passes_as _ _ _ _ _ _ (ap (λ o. c.args.waiting.now.items ++ stop_line o) (sym c.in-Some.is)) c.pass_error.ensures

pub returns-in-None : goal.returns-in-None
unfolding stop_line
returns-in-None g c = passes_nothing _ _ _ (ap stop_line c.in-None.is)
