use Rattle.std.proofs.Common.{rules}
use Rattle.std.proofs.lemmas.List.Sorted.{answers_always}
use Rattle.lrlex_parser.proofs.Blanks.{skip_blanks_is}
use Rattle.lrlex_parser.proofs.text.skip_blanks.Goals as goal

pub returns-clause-value : goal.returns-clause-value
returns-clause-value c = skip_blanks_is _ _ c.trim_start_matches.ensures.matches (answers_always _ _ _ (λ f a r f' k. search rules)) c.utf8.text c.trim_start_matches.utf8
