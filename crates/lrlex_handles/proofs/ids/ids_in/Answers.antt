use Rattle.std.proofs.Common.{rules, ◌≡◌, ap, sym, ◌∙◌}
use Rattle.std.specs.Arc.{arc_value}
use Rattle.std_alloc.specs.Arc.{arc_with_value}
use Rattle.lrlex_handles.specs.declared.object.Object.TheVariants.{Definition}
use Rattle.lrlex_handles.proofs.ids.ids_in.Goals as goal

-- a definition that is as it was, in its place
pub returns-in-Some-clause-kept : goal.returns-in-Some-clause-kept
returns-in-Some-clause-kept c = λ changed.
    let same : c.take_ids.new.definition ≡ arc_value c.in-Definition.definition = search (rules, changed, c.take_ids.ensures.kept, c.in-Some.ensures.value) in
    ap (λ v. Definition (arc_with_value c.in-Definition.definition v)) same ∙ sym c.in-Definition.is
