use Rattle.std.proofs.Common.{◌<◌, ℕ, length, sym, ap, ◌∙◌, arith, option_map}
use Rattle.std.specs.Str.{bytes_eq}
use Rattle.std.specs.HashMap.{get_by}
use Rattle.lrlex_handles.proofs.NamedIdLemmas.{id_more, mapped, same_key}
use Rattle.lrlex_handles.proofs.ids.map_of.Goals as goal

pub loop-entry-preserved : goal.loop-entry-preserved
loop-entry-preserved c = λ name.
    let k = c.in-Ok.name in
    let within : c.loop-entry.entry-index < length c.args.ids.now = omega (arith, c.loop-entry-test.true, c.loop-entry.auto.entry-index-end) in
    ap (option_map (λ (n : ℕ). n)) (c.in_ok-insert-in-Ok.ensures.updates.0 (record k { now = name }))
    ∙ mapped (bytes_eq k.now name) _ (get_by (λ q. bytes_eq name q.now) c.loop-entry.known) _ (c.loop-entry.invariant name)
    ∙ same_key _ _ name _ _ c.in-Ok.ensures.cases.0
    ∙ sym (id_more c.args.ids.now c.loop-entry.entry-index _ name within)
