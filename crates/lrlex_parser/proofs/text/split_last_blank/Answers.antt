use Rattle.std.proofs.Common.{rules}
use Rattle.std.proofs.lemmas.List.Sorted.{answers_always}
use Rattle.lrlex_base.specs.Classes.{is_blank}
use Rattle.lrlex_parser.proofs.Cuts.{rsplit_once_is, rsplit_once_whole, blank_ascii}
use Rattle.lrlex_parser.proofs.text.split_last_blank.Goals as goal

pub returns-clause-cases : goal.returns-clause-cases
returns-clause-cases c = rsplit_once_is is_blank _ _ c.rsplit_once.ensures.cases (answers_always _ _ _ (λ f a r f' k. search rules)) blank_ascii

pub returns-clause-whole : goal.returns-clause-whole
returns-clause-whole c = rsplit_once_whole is_blank _ _ c.rsplit_once.ensures.cases (answers_always _ _ _ (λ f a r f' k. search rules))
