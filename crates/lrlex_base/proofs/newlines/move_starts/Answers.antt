use Rattle.std.proofs.Common.{◌+◌, ◌-◌, ◌<◌, ◌≤◌, ◌^◌, arith}
use Rattle.lrlex_base.proofs.NewlineEditLemmas.{unmoved_all, moved_more}
use Rattle.lrlex_base.proofs.newlines.move_starts.Goals as goal

pub overflow_sub-starts : goal.overflow_sub-starts
overflow_sub-starts c =
    (unmoved_all (λ s. s - c.args.from + c.args.to) (λ s. (c.args.from ≤ s) × (s - c.args.from + c.args.to < 2 ^ 64)) c.args.starts.now c.loop-i.starts c.args.first c.loop-i.i
    (omega (arith, c.loop-i.auto.i)) (omega (arith, c.loop-i-test.true)) c.loop-i.invariant c.requires.movable).0

pub overflow_add-starts : goal.overflow_add-starts
overflow_add-starts c =
    let here = unmoved_all (λ s. s - c.args.from + c.args.to) (λ s. (c.args.from ≤ s) × (s - c.args.from + c.args.to < 2 ^ 64)) c.args.starts.now c.loop-i.starts c.args.first c.loop-i.i
    (omega (arith, c.loop-i.auto.i)) (omega (arith, c.loop-i-test.true)) c.loop-i.invariant c.requires.movable in
    omega (arith, here.1)

pub loop-i-preserved : goal.loop-i-preserved
loop-i-preserved c =
    moved_more (λ s. s - c.args.from + c.args.to) c.args.starts.now c.loop-i.starts c.args.first c.loop-i.i
    (omega (arith, c.loop-i.auto.i)) (omega (arith, c.loop-i-test.true)) c.loop-i.invariant
