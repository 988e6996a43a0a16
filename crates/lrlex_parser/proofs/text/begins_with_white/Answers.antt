use Rattle.std.proofs.Common.{rules}
use Rattle.std.proofs.lemmas.List.Sorted.{answers_always}
use Rattle.lrlex_base.specs.Classes.{is_white_space}
use Rattle.lrlex_parser.proofs.Fronts.{first_passes}
use Rattle.lrlex_parser.proofs.text.begins_with_white.Goals as goal

pub returns : goal.returns
returns c = first_passes is_white_space _ _ c.starts_with.ensures.cases (answers_always _ _ _ (λ f a r f' k. search rules)) c.utf8.text
