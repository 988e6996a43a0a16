use Rattle.std.proofs.Common.{rules, refl}
use Rattle.std.proofs.lemmas.List.Sorted.{answers_always}
use Rattle.lrlex_base.specs.Classes.{is_blank}
use Rattle.lrlex_parser.proofs.Cuts.{rsplit_once_some, rsplit_once_none, blank_ascii}
use Rattle.lrlex_report.proofs.ranges.before_blank.Goals as goal

pub returns-in-Some-clause-value : goal.returns-in-Some-clause-value
returns-in-Some-clause-value c =
    let at = rsplit_once_some is_blank _ _ _ c.in-Some.ensures.cases (answers_always _ _ _ (λ f a r f' k. search rules)) blank_ascii in
    rw at.has at.front_is

pub returns-in-None-clause-value : goal.returns-in-None-clause-value
returns-in-None-clause-value c = rw (rsplit_once_none is_blank _ c.in-None.ensures.cases (answers_always _ _ _ (λ f a r f' k. search rules)) blank_ascii) refl
