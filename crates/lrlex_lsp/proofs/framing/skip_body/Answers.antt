-- What was passed over, and then what this read gave.
use Rattle.std.proofs.Common.{◌++◌, take, arith}
use Rattle.std.proofs.lemmas.List.{length-append, length-take}
use Rattle.std.proofs.KnownBytes.{Consumes-trans}
use Rattle.lrlex_lsp.proofs.framing.skip_body.Goals as goal

pub loop-left-preserved : goal.loop-left-preserved
loop-left-preserved g c =
    let (done, count, gone) = c.loop-left.invariant in
    let read = c.in_ok-count.ensures in
    let more = take c.in_ok-count.count c.read.new.buf in
    (done ++ more, omega (arith, length-append done more, count, read.bound, c.read.auto.buf, length-take c.min-most.result c.loop-left.part), Consumes-trans _ _ _ done more gone read.bytes.0)
