use Rattle.std.proofs.Common.{rules}
use Rattle.std.proofs.lemmas.List.Sorted.{answers_always}
use Rattle.lrlex_base.specs.Classes.{is_white_space}
use Rattle.lrlex_parser.proofs.Cuts.{split_once_some, split_once_none, split_once_shorter}
use Rattle.lrlex_parser.proofs.text.next_name.Goals as goal

pub returns-in-Some-clause-pieces : goal.returns-in-Some-clause-pieces
returns-in-Some-clause-pieces c = split_once_some is_white_space _ _ _ c.in-Some.ensures.cases (answers_always _ _ _ (λ f a r f' k. search rules)) c.utf8.text

pub returns-in-None-clause-pieces : goal.returns-in-None-clause-pieces
returns-in-None-clause-pieces c = split_once_none is_white_space _ c.in-None.ensures.cases (answers_always _ _ _ (λ f a r f' k. search rules)) c.utf8.text

pub returns-in-Some-clause-shorter : goal.returns-in-Some-clause-shorter
returns-in-Some-clause-shorter c = split_once_shorter is_white_space _ _ _ c.in-Some.ensures.cases (answers_always _ _ _ (λ f a r f' k. search rules))
