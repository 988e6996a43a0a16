use Rattle.std.proofs.Common.{◌<◌, length, refl, ◌∙◌, sym, ap, map, set, arith, Bool}
use Rattle.lrlex_rules.specs.RuleParts.{as_rule}
use Rattle.lrlex_handles.specs.NamedIds.{is_missing}
use Rattle.lrlex_handles.specs.declared.structs.NamedId.{NamedId}
use Rattle.lrlex_handles.proofs.Fills.{put_next, counted, loop_end}
use Rattle.lrlex_handles.proofs.ids.copy_missing.Goals as goal

pub loop-i-preserved : goal.loop-i-preserved
loop-i-preserved c =
    let here : c.loop-i.i < length c.args.ids.now = omega arith in
    let room : c.loop-i.i < length c.args.missing.now = omega arith in
    counted (λ (e : NamedId) (t : Bool). is_missing (map (as_rule (λ n. n)) c.args.rules.now) e.name.now) c.args.ids.now c.args.missing.now _ c.loop-i.i
    (ap (λ us. set us c.loop-i.i c.is_missing.result) c.loop-i.invariant
    ∙ put_next (λ (e : NamedId) (t : Bool). is_missing (map (as_rule (λ n. n)) c.args.rules.now) e.name.now) c.args.ids.now _ _ c.args.missing.now c.is_missing.result c.loop-i.i here room refl (λ t. sym c.is_missing.ensures))

pub returns : goal.returns
returns c = loop_end (λ (e : NamedId) (t : Bool). is_missing (map (as_rule (λ n. n)) c.args.rules.now) e.name.now) c.args.ids.now c.args.missing.now _ c.loop-i.i _ c.min-room.ensures c.loop-i-test.false c.loop-i.invariant
