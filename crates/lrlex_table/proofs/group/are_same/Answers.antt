use Rattle.std.proofs.Common.{sym, ◌∙◌, arith}
use Rattle.std.proofs.lemmas.List.{take_all, take_more_same}
use Rattle.lrlex_table.proofs.group.are_same.Goals as goal

pub live_rows-preserved : goal.live_rows-preserved
live_rows-preserved c =
    take_more_same c.args.a.now c.args.b.now c.live_rows.at (0, 0) c.live_rows-test.true (omega (arith, c.live_rows-test.true, c.if-a-b.false)) c.live_rows.invariant
    (λ i. (c.if-a-at.false i, c.if-a-at-2.false i))

pub returns : goal.returns
returns c same =
    sym (take_all c.live_rows.at c.args.a.now c.live_rows-test.false) ∙ c.live_rows.invariant
    ∙ take_all c.live_rows.at c.args.b.now (omega (arith, c.live_rows-test.false, c.if-a-b.false))
