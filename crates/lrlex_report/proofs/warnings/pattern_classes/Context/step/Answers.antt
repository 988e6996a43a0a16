use Rattle.std.proofs.Common.{◌-◌, length, take, drop, sym, ap, ◌∙◌, arith}
use Rattle.lrlex_report.specs.declared.warnings.pattern_classes.Context.{Context}
use Rattle.lrlex_report.specs.PatternClasses.{from_first}
use Rattle.lrlex_report.proofs.ClassLemmas.{passes, passes_pair, fits}
use Rattle.lrlex_report.proofs.warnings.pattern_classes.Context.step.Goals as goal

pub returns-in-len1-clause-room : goal.returns-in-len1-clause-room
returns-in-len1-clause-room c = rw c.after.ensures (fits c.args.self c.args.rest.now c.in-len1.len_at_least)

pub returns-then-is_pair-clause-on : goal.returns-then-is_pair-clause-on
returns-then-is_pair-clause-on c = λ test none.
    let xs = c.args.rest.now in
    passes_pair c.args.self xs test c.in-len2-up.len_at_least (sym c.is_pair.ensures ∙ c.if-is_pair.true) none
    ∙ ap (λ (x : Context). from_first test x (take (length xs - 2) (drop 2 xs))) (sym c.after_pair.ensures)

pub returns-else-is_pair-clause-on : goal.returns-else-is_pair-clause-on
returns-else-is_pair-clause-on c = λ test none.
    let xs = c.args.rest.now in
    passes c.args.self xs test c.in-len2-up.len_at_least (sym c.is_pair.ensures ∙ c.if-is_pair.false) none
    ∙ ap (λ (x : Context). from_first test x (take (length xs - 1) (drop 1 xs))) (sym c.after-else-is_pair.ensures)

pub returns-else-is_pair-clause-room : goal.returns-else-is_pair-clause-room
returns-else-is_pair-clause-room c =
    rw c.after-else-is_pair.ensures (fits c.args.self c.args.rest.now (omega (arith, c.in-len2-up.len_at_least)))
