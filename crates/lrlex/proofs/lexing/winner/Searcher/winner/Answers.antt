use Rattle.std.proofs.Common.{◌∙◌, length, drop, sym, ap, subst, arith}
use Rattle.std.specs.Prelude.{option_copied}
use Rattle.lrlex_rules.specs.Matchers.{AreMatchers}
use Rattle.lrlex_rules.proofs.ViewLemmas.{taken_back}
use Rattle.lrlex.proofs.lexing.winner.Searcher.winner.Goals as goal

pub winner_with_search-requires-clause-held : goal.winner_with_search-requires-clause-held
winner_with_search-requires-clause-held g c =
    let is = c.requires.searcher.1 in (
      subst (AreMatchers c.args.table.now.rules.items) (sym c.deref_mut.ensures.value) is.matchers,
      is.lists,
      c.requires.searcher.2 ∙ ap (drop c.args.place) (sym is.text),
      omega (arith, c.requires.searcher.3, ap length is.text),
    )

pub returns-clause-searcher : goal.returns-clause-searcher
returns-clause-searcher g c input is = record {
  matchers = subst (AreMatchers c.args.table.now.rules.items)
      (sym (taken_back c.winner_with_search.new.matchers (drop (length c.winner_with_search.new.matchers) c.args.self.now.matchers.items) c.args.self.now.matchers.len
      (omega (arith, c.args.self.now.matchers.ok.0, c.in_ok-scan.ensures.matchers.0, is.matchers.0))))
      c.in_ok-scan.ensures.matchers;
  lists = ap (λ x. x.now) c.in_ok-scan.ensures.ends.0 ∙ is.lists;
  text = ap (λ x. x.now) c.in_ok-scan.ensures.ends.1 ∙ is.text;
  chain = ap option_copied c.in_ok-scan.ensures.ends.2 ∙ is.chain;
}

pub returns-in_err-scan-clause-searcher : goal.returns-in_err-scan-clause-searcher
returns-in_err-scan-clause-searcher g c input is = record {
  matchers = subst (AreMatchers c.args.table.now.rules.items)
      (sym (taken_back c.winner_with_search.new.matchers (drop (length c.winner_with_search.new.matchers) c.args.self.now.matchers.items) c.args.self.now.matchers.len
      (omega (arith, c.args.self.now.matchers.ok.0, c.in_err-scan.ensures.matchers.0, is.matchers.0))))
      c.in_err-scan.ensures.matchers;
  lists = ap (λ x. x.now) c.in_err-scan.ensures.ends.0 ∙ is.lists;
  text = ap (λ x. x.now) c.in_err-scan.ensures.ends.1 ∙ is.text;
  chain = ap option_copied c.in_err-scan.ensures.ends.2 ∙ is.chain;
}
