use Rattle.std.proofs.Common.{◌≡◌, ap, length, take, arith}
use Rattle.std.specs.List.{count_by}
use Rattle.std.proofs.lemmas.List.{take_all}
use Rattle.lrlex_base.specs.Places.{is_newline}
use Rattle.lrlex_positions.specs.Lines.{with_newlines}
use Rattle.lrlex_positions.proofs.LineLemmas.{length-with}
use Rattle.lrlex_positions.proofs.walks.begin_of.Goals as goal

pub returns-clause-none : goal.returns-clause-none
returns-clause-none c _ =
    let text = c.args.text.now in
    let all : count_by is_newline (take c.loop-i.i (with_newlines text)) ≡ count_by is_newline (with_newlines text) =
    ap (count_by is_newline) (take_all c.loop-i.i (with_newlines text) (omega (arith, length-with text, ap length c.as_bytes-bytes.ensures.value, c.loop-i-test.false))) in
    omega (arith, all, c.loop-i.invariant)
