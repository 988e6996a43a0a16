use Rattle.std.proofs.Common.{lit<}
use Rattle.lrlex_parser.proofs.Lists.{names_first, names_lone}
use Rattle.lrlex_report.proofs.listed.next_listed.Goals as goal

pub returns-in-Some-clause-names : goal.returns-in-Some-clause-names
returns-in-Some-clause-names c = let parts = c.in-Some.ensures.byte (lit< tt) (λ w o h. h) in names_first c.args.names.now c.in-Some.name.now c.in-Some.rest.now parts.2 parts.0 parts.1

pub returns-in-None-clause-names : goal.returns-in-None-clause-names
returns-in-None-clause-names c = names_lone c.args.names.now (c.in-None.ensures.byte (lit< tt) (λ w o h. h))
