use Rattle.std.proofs.Common.{arith}
use Rattle.lrlex_table.proofs.CheckingLemmas.{goes_alike, in_lists, of_all_lists}
use Rattle.lrlex_table.proofs.chain.Chain.is_of.Goals as goal

pub returns : goal.returns
returns c named =
    let self = c.args.self.now in
    let lists = c.args.lists.now in
    let begun = c.begins_as_lists.ensures in
    let goes = c.goes_by_classes.ensures in
    let held = c.if-not-begins_as_lists.false in
    let only = begun.only held in
    record {
      within = in_lists lists self only;
      each = λ l ts here there. of_all_lists lists self only l ts here there (λ p one. (
        (
          λ m in_it. begun.begins held m in_it l p one,
          λ r b inside small.
              goes_alike p.table l self r b _ _ (λ q. begun.classes held l here p one q b small)
              (c.begin_alike.ensures c.if-not-begin_alike.false b small) (goes c.if-not-goes_by_classes.false r b (omega (arith, inside, self.bases.ok.0)) small l p one),
        ),
        c.names_winners.ensures named l p one,
      ));
      rows = λ r inside. c.rows_are_in.ensures c.if-not-rows_are_in.false r (omega (arith, inside, self.bases.ok.0));
    }
