-- An error's line is told at its place.
use Rattle.std.proofs.Common.{◌≡◌, [], ◌∷◌, ◌++◌, ◌∙◌, ap, sym}
use Rattle.lrlex_base.specs.Spans.{span_start}
use Rattle.lrlex.specs.Errors.{lex_error_span, stop_text}
use Rattle.lrlex.specs.Views.{definition_by, item_of}
use Rattle.lrlex_cli.specs.Lines.{line}
use Rattle.lrlex_cli.proofs.WritingLemmas.{passes_as}
use Rattle.lrlex_cli.proofs.lines.pass_line.Goals as goal

pub returns-in-Err : goal.returns-in-Err
returns-in-Err g c =
    let w = c.args.waiting.now.items in
    let at : c.start.result ≡ span_start (lex_error_span c.in-Err.error) = c.start.ensures ∙ ap span_start c.span-in-Err.ensures in
    passes_as _ _ _ _ _ _ (ap (λ n. w ++ (stop_text n ++ 10 ∷ [])) at
    ∙ ap (λ x. w ++ line (definition_by g.S.Numbered.number c.args.table.now).rules c.args.text.now (item_of g.S.Numbered.number g.X.Lexeme.seen x)) (sym c.in-Err.is)) c.pass_error.ensures
