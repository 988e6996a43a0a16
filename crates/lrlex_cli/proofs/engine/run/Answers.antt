-- What the lexing wrote is what the rule text asks for.
use Rattle.lrlex_cli.specs.Engine.{Request}
use Rattle.lrlex_cli.proofs.EngineLemmas.{lexing_runs}
use Rattle.lrlex_cli.proofs.engine.run.Goals as goal

pub returns-in-Ok : goal.returns-in-Ok
returns-in-Ok g c =
    let q : Request = record { greatest = g.L.StorageT.Numbered.greatest; flags = c.args.flags; rules = c.args.rules.now; input = c.args.input.now } in
    lexing_runs _
    q c.in_ok-definition.field-0 c.in-Ok.definition _ _ _
    c.in-Ok.is c.in_ok-definition.ensures.answer c.in_ok-definition.ensures.initial c.write_lexed.ensures
