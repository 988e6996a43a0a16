use Rattle.std.proofs.Common.{lit<, None}
use Rattle.std.proofs.lemmas.Str.Pattern.{strip_prefix_char}
use Rattle.lrlex_parser.proofs.Angles.{no_operation}
use Rattle.lrlex_report.proofs.warnings.patterns.target_name.Goals as goal

pub returns : goal.returns
returns c = (no_operation c.args.text.now (strip_prefix_char 43 c.args.text.now None c.in_default.ensures.cases (lit< tt)) (strip_prefix_char 45 c.args.text.now None c.in_default-strip_prefix.ensures.cases (lit< tt))).1
