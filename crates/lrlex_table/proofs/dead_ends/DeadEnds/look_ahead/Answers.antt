use Rattle.std.proofs.Common.{sym, subst, ◌∙◌, Bor}
use Rattle.std.specs.Prelude.{IsCharBoundary}
use Rattle.std.proofs.lemmas.Option.{same_Some}
use Rattle.lrlex_table.specs.Ahead.{AreWonAhead, IsFoundIn}
use Rattle.lrlex_table.specs.Chain.{BeginsIn}
use Rattle.lrlex_table.specs.declared.chain.Chain.{Chain}
use Rattle.lrlex_table.proofs.AheadLemmas.{found_between, found_won, found_begins}
use Rattle.lrlex_table.proofs.dead_ends.DeadEnds.look_ahead.Goals as goal

pub look-requires-clause-begins : goal.look-requires-clause-begins
look-requires-clause-begins c t l is =
    subst (BeginsIn t l c.in-Some.chain.now) (sym c.in-Some-start_of.ensures.row) (is.0 c.args.list c.in-Some-start_of.ensures.within)

pub invariant_of-self-2 : goal.invariant_of-self-2
invariant_of-self-2 c =
    let self = c.args.self.now in
    let a = c.look.new.self in
    let chain = c.in-Some.chain.now in
    let place = c.args.place in
    let is = sym c.requires.chain ∙ c.in-Some.is in
    let all = self.chained c.in-Some.chain is in
    let found = subst (λ xs. IsFoundIn chain xs place a) (c.as_bytes.ensures.value ∙ c.requires.text) c.look.ensures.found in
    let begins = subst (λ xs. IsCharBoundary xs place) c.requires.text c.requires.boundary in
    let here = c.in-Some-start_of.ensures.within in
    record {
      right = self.right;
      up_to = self.up_to;
      within = self.within;
      marked = (found.room, found_between self.lists.now chain all self.text.now place a begins found c.args.list here, found_begins chain self.text.now place a found);
      won = λ x same.
          subst (λ (it : Bor Chain). AreWonAhead self.lists.now it.now self.text.now a) (same_Some c.in-Some.chain x (sym is ∙ same))
          (found_won self.lists.now chain all self.text.now place a begins found c.args.list here);
      chained = self.chained;
    }
