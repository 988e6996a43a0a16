use Rattle.std.proofs.Common.{slice_get, ap, sym, ◌∙◌, arith}
use Rattle.std.specs.List.{slice_get}
use Rattle.lrlex_rules.proofs.MatcherLemmas.{none_made, nones_more}
use Rattle.lrlex_rules.proofs.matchers.empty_matchers.Goals as goal

pub rules-preserved : goal.rules-preserved
rules-preserved g c = record {
  made = omega (arith, c.in_ok-push.ensures.len, c.rules.invariant.made, c.rules.made.ok.0, c.push.new.self.ok.0);
  none = λ i o is. nones_more c.rules.made.items c.rules.invariant.none i o (ap (λ xs. slice_get xs i) (sym c.in_ok-push.ensures.items) ∙ is);
}

pub returns : goal.returns
returns g c = none_made c.args.rules.now c.rules.made.items (omega (arith, c.rules.invariant.made, c.rules-test.false)) c.rules.invariant.none
