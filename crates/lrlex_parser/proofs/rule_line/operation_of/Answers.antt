use Rattle.std.proofs.Common.{lit<, None}
use Rattle.std.proofs.lemmas.Str.Pattern.{strip_prefix_char}
use Rattle.lrlex_parser.proofs.Angles.{no_operation}
use Rattle.lrlex_parser.proofs.rule_line.operation_of.Goals as goal

pub returns-clause-operation : goal.returns-clause-operation
returns-clause-operation c = (no_operation c.args.text.now (strip_prefix_char 43 c.args.text.now None c.in_default.ensures.cases (lit< tt)) (strip_prefix_char 45 c.args.text.now None c.in_default-strip_prefix.ensures.cases (lit< tt))).0

pub returns-clause-name : goal.returns-clause-name
returns-clause-name c = (no_operation c.args.text.now (strip_prefix_char 43 c.args.text.now None c.in_default.ensures.cases (lit< tt)) (strip_prefix_char 45 c.args.text.now None c.in_default-strip_prefix.ensures.cases (lit< tt))).1
