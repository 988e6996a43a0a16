use Rattle.std.proofs.Common.{◌∷◌, ◌++◌, [], map, length, ap, ap₂, ◌∙◌}
use Rattle.std.proofs.lemmas.List.{map-append}
use Rattle.lrlex_rules.specs.RuleLists.{list_in}
use Rattle.lrlex_rules.proofs.ListLemmas.{listed_again}
use Rattle.lrlex_rules.proofs.active_lists.add_list.Goals as goal

pub returns-clause-added : goal.returns-clause-added
returns-clause-added c =
    let old = c.args.lists.now.items in
    let new = c.put_list.new.lists.items in
    let at = c.args.at.now.items in
    let j = c.in_ok-list.list in
    ap (map (list_in (map (λ v. v.items) new))) c.in_ok-push.ensures.items
    ∙ map-append (list_in (map (λ v. v.items) new)) at (j ∷ [])
    ∙ ap₂ ◌++◌ (listed_again (list_in (map (λ v. v.items) old)) (list_in (map (λ v. v.items) new)) (length old) at c.requires c.in_ok-list.ensures.kept)
    (ap (λ x. x ∷ []) c.in_ok-list.ensures.is)
