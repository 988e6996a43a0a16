use Rattle.std.proofs.Common.{◌≡◌, [], ◌∷◌, ◌++◌, map, length, ap, ◌∙◌, arith}
use Rattle.lrlex_rules.specs.RuleLists.{list_in}
use Rattle.lrlex_rules.proofs.ListLemmas.{list_in_front, list_in_last}
use Rattle.lrlex_rules.proofs.active_lists.put_list.Goals as goal

pub returns-clause-is : goal.returns-clause-is
returns-clause-is c =
    let old = c.args.lists.now in
    let last : c.len-index.result ≡ length old.items = omega (arith, c.len-index.ensures, old.ok.0) in
    ap (λ xs. list_in (map (λ v. v.items) xs) c.len-index.result) c.in_ok-push.ensures.items
    ∙ ap (list_in (map (λ v. v.items) (old.items ++ c.args.places ∷ []))) last ∙ list_in_last old.items c.args.places

pub returns-clause-kept : goal.returns-clause-kept
returns-clause-kept c i lt =
    let old = c.args.lists.now in
    ap (λ xs. list_in (map (λ v. v.items) xs) i) c.in_ok-push.ensures.items ∙ list_in_front old.items c.args.places i lt
