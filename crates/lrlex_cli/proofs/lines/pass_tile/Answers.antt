-- A tile without an id gives no lexeme.
use Rattle.std.proofs.Common.{◌-◌, ap, option_map}
use Rattle.lrlex_base.specs.Spans.{span_end, span_start}
use Rattle.lrlex.specs.Tiling.{lexeme_of}
use Rattle.lrlex.specs.Views.{definition_by}
use Rattle.lrlex_cli.specs.Lines.{lines}
use Rattle.lrlex_cli.proofs.WritingLemmas.{passes_nothing}
use Rattle.lrlex_cli.proofs.lines.pass_tile.Goals as goal

pub returns-in-None : goal.returns-in-None
returns-in-None g c =
    let x = c.args.tile in
    passes_nothing _ _ _ (ap (λ o. lines (definition_by g.S.Numbered.number c.args.table.now).rules c.args.text.now
    (lexeme_of (option_map g.S.Numbered.number o) (span_start x.span) (span_end x.span - span_start x.span))) c.in-None.is)
