use Rattle.lrlex_cli.proofs.command.with_numbers.Goals as goal

pub returns : goal.returns
returns c a made = c.with_option.ensures _ (c.with_option-command-2.ensures _ (c.with_option-command.ensures a made))
