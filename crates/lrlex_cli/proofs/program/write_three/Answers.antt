use Rattle.std.proofs.Common.{subst}
use Rattle.std.specs.Io.KnownBytes.{Appends}
use Rattle.lrlex_cli.specs.Writing.{AppendsFront, Writes}
use Rattle.lrlex_cli.proofs.WritingLemmas.{writes_both, second_of_three}
use Rattle.lrlex_cli.proofs.program.write_three.Goals as goal

pub returns-in_err-write_bytes-2 : goal.returns-in_err-write_bytes-2
returns-in_err-write_bytes-2 g c =
    let W = g.E.Write.contents in
    let first = subst (Appends (W c.args.err.now) (W c.write_bytes.new.out)) c.as_bytes.ensures.value c.in_ok-write_bytes.ensures in
    let second = subst (AppendsFront (W c.write_bytes.new.out) (W c.write_bytes-2.new.out)) c.as_bytes-2.ensures.value c.in_err-write_bytes-2.ensures in
    second_of_three _ _ _ c.from_residual-in_err-write_bytes-2.result c.args.first.now c.args.second.now c.args.third.now c.from_residual-in_err-write_bytes-2.ensures.0 first second

pub returns : goal.returns
returns g c =
    let W = g.E.Write.contents in
    let first = subst (Appends (W c.args.err.now) (W c.write_bytes.new.out)) c.as_bytes.ensures.value c.in_ok-write_bytes.ensures in
    let second = subst (Appends (W c.write_bytes.new.out) (W c.write_bytes-2.new.out)) c.as_bytes-2.ensures.value c.in_ok-write_bytes-2.ensures in
    let third = subst (Writes (W c.write_bytes-2.new.out) (W c.write_bytes-3.new.out) c.write_bytes-3.result) c.as_bytes-3.ensures.value c.write_bytes-3.ensures in
    writes_both _ _ _ c.write_bytes-3.result c.args.first.now _ first (writes_both _ _ _ c.write_bytes-3.result c.args.second.now c.args.third.now second third)
