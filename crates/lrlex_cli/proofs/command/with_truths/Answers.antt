use Rattle.lrlex_cli.proofs.command.with_truths.Goals as goal

pub returns : goal.returns
returns c a made =
    let three = c.with_option-command-3.ensures _ (c.with_option-command-2.ensures _ (c.with_option-command.ensures a made)) in
    let six = c.with_option-command-6.ensures _ (c.with_option-command-5.ensures _ (c.with_option-command-4.ensures _ three)) in
    c.with_option.ensures _ (c.with_option-command-8.ensures _ (c.with_option-command-7.ensures _ six))
