-- An edit that can't be read leaves no words to be read.
use Rattle.clap.proofs.TakesLemmas.{passed_up}
use Rattle.lrlex_cli.proofs.words.words_of.Goals as goal

pub returns-in_err-edit_of-clause-refused : goal.returns-in_err-edit_of-clause-refused
returns-in_err-edit_of-clause-refused c =
    passed_up _ c.in_err-edit_of.field-0.0 _ c.from_residual-in_err-edit_of.ensures.1 (λ w is. c.in_err-edit_of.ensures.refused w is.edit)
