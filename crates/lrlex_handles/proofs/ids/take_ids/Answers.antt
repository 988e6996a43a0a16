use Rattle.std.proofs.Common.{◌≡◌, ℕ, List, Bool, map, ap, subst, ◌∙◌, IfSome}
use Rattle.lrlex_rules.specs.RuleParts.{as_rule}
use Rattle.lrlex.specs.Ids.{ids_of, with_ids}
use Rattle.lrlex.specs.Views.{definition_of}
use Rattle.lrlex_handles.specs.Buffers.{filled}
use Rattle.lrlex_handles.specs.NamedIds.{id_by, is_missing}
use Rattle.lrlex_handles.specs.declared.structs.NamedId.{NamedId}
use Rattle.lrlex_handles.proofs.ids.take_ids.Goals as goal

pub returns-clause-done : goal.returns-clause-done
returns-clause-done c = λ _.
    let known : (name : List ℕ) → ids_of (λ n. n) c.in-Ok-Some.known name ≡ id_by c.args.ids.now name =
    subst (λ o. IfSome o (λ known. (name : List ℕ) → ids_of (λ n. n) known name ≡ id_by c.args.ids.now name)) c.in-Ok-Some.field-0-is c.in-Ok-Some.ensures.ids in
    c.in-Ok.ensures.says ∙ ap (λ ids. with_ids ids (definition_of (λ n. n) c.args.definition.now)) (λ i. λ name. known name i)

pub returns-clause-missing : goal.returns-clause-missing
returns-clause-missing c = λ _.
    c.copy_missing.ensures
    ∙ ap (λ rs. filled (λ (e : NamedId) (t : Bool). is_missing (map (as_rule (λ n. n)) rs) e.name.now) c.args.ids.now c.args.missing.now) c.rules.ensures
