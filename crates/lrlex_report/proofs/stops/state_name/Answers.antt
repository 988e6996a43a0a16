use Rattle.std.proofs.Common.{◌∙◌, Some, ap}
use Rattle.std.specs.Slice.Iter.{iter_rest}
use Rattle.std.specs.Option.{option_copied}
use Rattle.lrlex_report.proofs.StateLemmas.{named}
use Rattle.lrlex_report.proofs.stops.state_name.Goals as goal

pub returns-in-Some : goal.returns-in-Some
returns-in-Some c =
    let found = named (iter_rest c.args.states) c.args.id (option_copied c.first_state.result) c.if-id-eq0.false c.first_state.ensures in
    ap Some c.name.ensures ∙ (rw c.in-Some.is at found)

pub returns-in-None : goal.returns-in-None
returns-in-None c =
    let found = named (iter_rest c.args.states) c.args.id (option_copied c.first_state.result) c.if-id-eq0.false c.first_state.ensures in
    rw c.in-None.is at found
