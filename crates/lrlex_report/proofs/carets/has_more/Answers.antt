use Rattle.std.proofs.Common.{◌∙◌}
use Rattle.std.specs.Str.{chars}
use Rattle.std.proofs.lemmas.Iterator.{YieldsList-from_chars}
use Rattle.std.proofs.lemmas.Iterator.Consumers.{nth_from_yields_List}
use Rattle.lrlex_report.proofs.CaretLemmas.{has_nth}
use Rattle.lrlex_report.proofs.carets.has_more.Goals as goal

pub returns : goal.returns
returns c =
    let found = nth_from_yields_List c.nth.result c.nth.new.self c.args.most c.nth.ensures.ran (YieldsList-from_chars c.args.text.now c.utf8.text cc) in
    c.is_some.ensures ∙ has_nth (chars c.args.text.now) c.args.most c.nth.result found
