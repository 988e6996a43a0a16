use Rattle.std.proofs.Common.{rules, tests}
use Rattle.std.proofs.lemmas.Iterator.{YieldsList-from_slice}
use Rattle.std.proofs.lemmas.Iterator.Search.{position_from_yields_List}
use Rattle.lrlex_report.proofs.warnings.class_names.letters_end.Goals as goal

pub returns-clause-place : goal.returns-clause-place
returns-clause-place c = position_from_yields_List _ _ _ _ c.position.ensures.ran (YieldsList-from_slice c.args.text.now cc) (λ x b q k. search (rules, tests))
