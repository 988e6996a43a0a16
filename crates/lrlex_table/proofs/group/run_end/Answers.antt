use Rattle.std.proofs.Common.{arith}
use Rattle.lrlex_table.specs.Group.{nexts_in}
use Rattle.lrlex_table.proofs.GroupLemmas.{step_all_more}
use Rattle.lrlex_table.proofs.group.run_end.Goals as goal

pub live_rows-preserved : goal.live_rows-preserved
live_rows-preserved c =
    let run = c.run_of-end.ensures in
    let before = c.live_rows.invariant in (
      run.past,
      omega (arith, run.within, before.1),
      λ i ge lt. step_all_more (nexts_in c.args.cache.now c.args.places.now) c.args.live_rows.now c.live_rows.at c.args.byte i (0, 0) c.live_rows-test.true
          (before.2 i ge (omega (arith, run.within))) (run.same i ge lt),
    )
