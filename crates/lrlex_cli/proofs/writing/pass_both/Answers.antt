use Rattle.std.proofs.Common.{◌++◌, append_assoc}
use Rattle.lrlex_cli.proofs.WritingLemmas.{passes_cut, passes_both}
use Rattle.lrlex_cli.proofs.writing.pass_both.Goals as goal

pub returns-in_err-pass : goal.returns-in_err-pass
returns-in_err-pass g c =
    passes_cut _ _ _ (c.args.waiting.now.items ++ c.args.first.now) c.args.second.now _ _ c.from_residual.ensures.0
    (append_assoc c.args.waiting.now.items c.args.first.now c.args.second.now) c.in_err-pass.ensures

pub returns : goal.returns
returns g c = passes_both _ _ _ _ c.args.waiting.now.items c.args.first.now c.args.second.now _ _ c.in_ok-pass.ensures c.pass-2.ensures
