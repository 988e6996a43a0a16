use Rattle.std.proofs.Common.{eqb, refl, lit<}
use Rattle.lrlex_parser.proofs.Angles.{none_before}
use Rattle.lrlex_report.proofs.warnings.patterns.after_flags.Goals as goal

pub returns-in-None : goal.returns-in-None
returns-in-None c = rw (none_before (λ b. eqb b 58) c.args.rest.now (c.in-None.ensures.byte (lit< tt) (λ w o h. h))) refl
