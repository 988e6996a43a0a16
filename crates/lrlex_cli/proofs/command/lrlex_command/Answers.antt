use Rattle.lrlex_cli.proofs.command.lrlex_command.Goals as goal

pub returns : goal.returns
returns c =
    let numbers = c.with_numbers-command.ensures _ (c.with_truths-command.ensures _ c.new.ensures.app) in
    c.with_path.ensures _ (c.with_path-command.ensures _ (c.with_edit-command.ensures _ numbers))
