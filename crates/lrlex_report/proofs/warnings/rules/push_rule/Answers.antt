use Rattle.std.proofs.Common.{IsCharBoundary, subst, sym}
use Rattle.lrlex_report.proofs.warnings.rules.push_rule.Goals as goal

pub returns-clause-fit : goal.returns-clause-fit
returns-clause-fit g c = λ was.
    let rules = c.args.rules.now in
    let begin = subst (IsCharBoundary rules) (sym c.new-span.ensures.start) c.source_of-start.ensures.begin in
    let end = subst (IsCharBoundary rules) (sym c.new-span.ensures.end) c.source_of-start.ensures.end in
    c.push_all.ensures.fit rules (begin, end) was
