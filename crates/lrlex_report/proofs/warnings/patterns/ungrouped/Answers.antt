use Rattle.std.proofs.Common.{None, lit<, refl}
use Rattle.std.proofs.lemmas.Str.Pattern.{strip_prefix_char}
use Rattle.lrlex_parser.proofs.Angles.{begins_no}
use Rattle.lrlex_report.proofs.warnings.patterns.ungrouped.Goals as goal

pub returns-in_default : goal.returns-in_default
returns-in_default c = rw (begins_no 40 c.args.pattern.now (strip_prefix_char 40 c.args.pattern.now None c.in_default.ensures.cases (lit< tt))) refl
