-- What waits, the last lexeme's line and the error's.
use Rattle.std.proofs.Common.{[], ◌++◌, ◌∙◌, append-nil, append_assoc}
use Rattle.lrlex.specs.Views.{definition_by}
use Rattle.lrlex_cli.specs.Lines.{lines}
use Rattle.lrlex_cli.specs.Scanning.{last_lexeme, stop_line}
use Rattle.lrlex_cli.proofs.WritingLemmas.{up_to_end, up_to_fails, up_to_more, writes_cut}
use Rattle.lrlex_cli.proofs.lines.write_end.Goals as goal

pub returns-in_err-pass_last : goal.returns-in_err-pass_last
returns-in_err-pass_last g c =
    let w = c.args.waiting.now.items in
    let last = lines (definition_by g.S.Numbered.number c.args.table.now).rules c.args.text.now (last_lexeme g.S.Numbered.number c.args.last) in
    writes_cut _ _ _ (w ++ last) (stop_line c.args.error) _ c.from_residual.ensures.0 (append_assoc w last (stop_line c.args.error)) c.in_err-pass_last.ensures

pub returns-in_err-pass_stop : goal.returns-in_err-pass_stop
returns-in_err-pass_stop g c =
    let w = c.args.waiting.now.items in
    let last = lines (definition_by g.S.Numbered.number c.args.table.now).rules c.args.text.now (last_lexeme g.S.Numbered.number c.args.last) in
    let stop = stop_line c.args.error in
    writes_cut _ _ _ ((w ++ last) ++ stop) [] _ c.from_residual-in_err-pass_stop.ensures.0 (append-nil ((w ++ last) ++ stop) ∙ append_assoc w last stop)
    (up_to_fails _ _ _ (w ++ last) stop _ c.in_ok-pass_last.ensures c.in_err-pass_stop.ensures)

pub returns : goal.returns
returns g c =
    let w = c.args.waiting.now.items in
    let last = lines (definition_by g.S.Numbered.number c.args.table.now).rules c.args.text.now (last_lexeme g.S.Numbered.number c.args.last) in
    let stop = stop_line c.args.error in
    up_to_end _ _ _ _ ((w ++ last) ++ stop) _ _ (append_assoc w last stop)
    (up_to_more _ _ _ (w ++ last) stop _ _ c.in_ok-pass_last.ensures c.in_ok-pass_stop.ensures) c.flush.ensures.written
