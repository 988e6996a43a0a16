use Rattle.std.proofs.Common.{None, lit<, refl}
use Rattle.std.proofs.lemmas.Str.Pattern.{strip_prefix_char}
use Rattle.lrlex_parser.proofs.Angles.{begins_no}
use Rattle.lrlex_report.proofs.pattern_notes.quotes_operators.Goals as goal

pub returns-in-None : goal.returns-in-None
returns-in-None c = rw (begins_no 34 c.args.pattern.now (strip_prefix_char 34 c.args.pattern.now None c.in-None.ensures.cases (lit< tt))) refl
