use Rattle.std.proofs.Common.{rules}
use Rattle.std.proofs.lemmas.List.Sorted.{answers_always}
use Rattle.lrlex_base.specs.Classes.{is_white_space}
use Rattle.lrlex_parser.proofs.Trims.{trim_start_matches_closure}
use Rattle.lrlex_parser.proofs.text.trim_start.Goals as goal

pub returns-clause-value : goal.returns-clause-value
returns-clause-value c = trim_start_matches_closure is_white_space _ _ c.trim_start_matches.ensures.matches (answers_always _ _ _ (λ f a r f' k. search rules)) c.utf8.text c.trim_start_matches.utf8
