use Rattle.std.proofs.Common.{rules, ◌∙◌}
use Rattle.std.proofs.lemmas.List.Sorted.{answers_always}
use Rattle.lrlex_base.specs.Classes.{is_white_space}
use Rattle.lrlex_report.proofs.RangeLemmas.{up_to_first, up_to_none}
use Rattle.lrlex_report.proofs.ranges.first_word.Goals as goal

pub returns-in-Some-clause-value : goal.returns-in-Some-clause-value
returns-in-Some-clause-value c = c.split_at.ensures.front ∙ up_to_first is_white_space _ _ c.in-Some.ensures.cases (answers_always _ _ _ (λ f a r f' k. search rules)) c.utf8.text

pub returns-in-None-clause-value : goal.returns-in-None-clause-value
returns-in-None-clause-value c = up_to_none is_white_space _ c.in-None.ensures.cases (answers_always _ _ _ (λ f a r f' k. search rules)) c.utf8.text
