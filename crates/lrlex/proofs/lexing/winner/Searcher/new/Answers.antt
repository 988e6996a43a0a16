use Rattle.std.proofs.Common.{slice_get, ap, ◌∙◌}
use Rattle.std.specs.Prelude.{option_copied}
use Rattle.lrlex.proofs.lexing.winner.Searcher.new.Goals as goal

pub returns-clause-searcher : goal.returns-clause-searcher
returns-clause-searcher g c = record {
  matchers = rw c.deref.ensures.value at c.in_ok-matchers.ensures;
  lists = c.new-ends.ensures.lists ∙ c.deref-2.ensures.value;
  text = c.new-ends.ensures.text;
  chain = ap option_copied c.new-ends.ensures.chain ∙ c.first.ensures.value ∙ ap (λ xs. slice_get xs 0) c.deref-3.ensures.value;
}

pub returns-clause-linear : goal.returns-clause-linear
returns-clause-linear g c first = c.new-ends.ensures.linear _ first
