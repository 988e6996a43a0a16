use Rattle.std.proofs.Common.{◌<◌, length, ◌∙◌, sym, ap, set, arith}
use Rattle.lrlex_report.specs.declared.warnings.kinds.Warning as told
use Rattle.lrlex_handles.specs.Warnings.{warning_by}
use Rattle.lrlex_handles.specs.declared.structs.Warning.{Warning}
use Rattle.lrlex_handles.proofs.Fills.{put_next, counted, loop_end}
use Rattle.lrlex_handles.proofs.warnings.copy_warnings.Goals as goal

pub loop-i-preserved : goal.loop-i-preserved
loop-i-preserved c =
    let here : c.loop-i.i < length c.args.warnings.now = omega arith in
    let room : c.loop-i.i < length c.args.out.now = omega arith in (
      counted (λ (w : told.Warning) (t : Warning). warning_by c.args.rules.now w) c.args.warnings.now c.args.out.now _ c.loop-i.i
          (ap (λ us. set us c.loop-i.i c.warning_of.result) c.loop-i.invariant.0
          ∙ put_next (λ (w : told.Warning) (t : Warning). warning_by c.args.rules.now w) c.args.warnings.now c.index-warnings-i.result c.index-warnings-i.result c.args.out.now c.warning_of.result c.loop-i.i here room (sym c.index-warnings-i.is) (λ t. sym c.warning_of.ensures.warning)),
      c.warning_of.ensures.cursor,
    )

pub returns : goal.returns
returns c = loop_end (λ (w : told.Warning) (t : Warning). warning_by c.args.rules.now w) c.args.warnings.now c.args.out.now _ c.loop-i.i _ c.min-room.ensures c.loop-i-test.false c.loop-i.invariant.0
