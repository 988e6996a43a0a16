use Rattle.std.proofs.Common.{ap}
use Rattle.lrlex.specs.Views.{definition_by}
use Rattle.lrlex_cli.specs.Lines.{lines}
use Rattle.lrlex_cli.specs.Scanning.{last_lexeme}
use Rattle.lrlex_cli.proofs.WritingLemmas.{passes_nothing}
use Rattle.lrlex_cli.proofs.lines.pass_last.Goals as goal

pub returns-in-None : goal.returns-in-None
returns-in-None g c =
    passes_nothing _ _ _ (ap (λ o. lines (definition_by g.S.Numbered.number c.args.table.now).rules c.args.text.now (last_lexeme g.S.Numbered.number o)) c.in-None.is)
