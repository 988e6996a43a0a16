use Rattle.std.proofs.Common.{rules}
use Rattle.std.proofs.lemmas.List.Sorted.{answers_always}
use Rattle.lrlex_parser.proofs.Fronts.{word_found, word_alone}
use Rattle.lrlex_parser.proofs.text.first_word.Goals as goal

pub returns-in-Some-clause-word : goal.returns-in-Some-clause-word
returns-in-Some-clause-word c = word_found _ _ _ c.in-Some.ensures.cases (answers_always _ _ _ (λ f a r f' k. search rules)) c.utf8.text c.split_at.ensures.front

pub returns-in-None-clause-word : goal.returns-in-None-clause-word
returns-in-None-clause-word c = word_alone _ c.in-None.ensures.cases (answers_always _ _ _ (λ f a r f' k. search rules)) c.utf8.text
