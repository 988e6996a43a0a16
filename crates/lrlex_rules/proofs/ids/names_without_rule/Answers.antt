use Rattle.std.proofs.Common.{◌||◌, ◌&&◌, ◌∷◌, [], not, map, sym, ap, ◌∙◌}
use Rattle.std.proofs.Math.Bool.{or-false}
use Rattle.std.proofs.lemmas.List.Folds.{list_any-append}
use Rattle.std.proofs.lemmas.Map.Iter.{iter_end}
use Rattle.std.proofs.lemmas.Map.Made.{is_some-lookup}
use Rattle.std.proofs.lemmas.Slice.Eq.{bytes_eq-Decides}
use Rattle.std.specs.HashMap.{keys, get_by}
use Rattle.std.specs.HashSet.{contains_by}
use Rattle.std.specs.List.{list_any}
use Rattle.std.specs.Map.Iter.{deref}
use Rattle.std.specs.Str.{bytes_eq}
use Rattle.lrlex_rules.specs.RuleParts.{as_rule}
use Rattle.lrlex_rules.specs.Ids.{is_named}
use Rattle.lrlex_rules.proofs.IdLemmas.{inserted, same_name, with_name, without_name, some_of, holds_names}
use Rattle.lrlex_rules.proofs.ViewLemmas.{list_any-map}
use Rattle.lrlex_rules.proofs.ids.names_without_rule.Goals as goal

pub loop-name-preserved-in_ok-insert : goal.loop-name-preserved-in_ok-insert
loop-name-preserved-in_ok-insert g c = λ name.
    let rules = map (as_rule g.S.Numbered.number) c.args.rules.now in
    let own = c.in-Some.name.now.now in
    let before = list_any (λ k. bytes_eq name k.now.now) c.loop-name.yielded in
    let named = list_any (is_named name) rules in
    inserted (λ x y. bytes_eq x.now y.now) (λ k. bytes_eq name k.now) c.loop-name.lacking c.insert.new.self c.in-Some.name.now c.in_ok-insert.field-0 (λ y e. same_name name own y.now e) c.in_ok-insert.ensures.added c.in_ok-insert.ensures.keys
    ∙ with_name before (bytes_eq name own) named (contains_by (λ k. bytes_eq name k.now) c.loop-name.lacking) (c.loop-name.invariant name)
    (λ e. ap (λ n. list_any (is_named n) rules) ((bytes_eq-Decides name own).0 e) ∙ sym (c.in_ok-names.ensures own) ∙ sym c.if-not-contains.ensures)
    ∙ ap (λ b. b && not named) (sym (list_any-append (λ k. bytes_eq name k.now.now) c.loop-name.yielded (c.in-Some.name ∷ []) ∙ ap (λ b. before || b) (or-false (bytes_eq name own))))

pub loop-name-preserved : goal.loop-name-preserved
loop-name-preserved g c = λ name.
    let rules = map (as_rule g.S.Numbered.number) c.args.rules.now in
    let own = c.in-Some.name.now.now in
    let before = list_any (λ k. bytes_eq name k.now.now) c.loop-name.yielded in
    let named = list_any (is_named name) rules in
    without_name before (bytes_eq name own) named (contains_by (λ k. bytes_eq name k.now) c.loop-name.lacking) (c.loop-name.invariant name)
    (λ e. ap (λ n. list_any (is_named n) rules) ((bytes_eq-Decides name own).0 e) ∙ sym (c.in_ok-names.ensures own) ∙ sym c.if-not-contains.ensures)
    ∙ ap (λ b. b && not named) (sym (list_any-append (λ k. bytes_eq name k.now.now) c.loop-name.yielded (c.in-Some.name ∷ []) ∙ ap (λ b. before || b) (or-false (bytes_eq name own))))

pub returns : goal.returns
returns g c =
    let ids = c.args.ids.now in
    let all = iter_end deref (keys ids) c.loop-name.yielded c.into_iter-name-iterator.result c.loop-name.name-iterator c.next.new.self c.next.result (c.into_iter-name-iterator.ensures.into_iter_gives ∙ c.keys-name-items.ensures.rest) c.loop-name.yielded_by c.in-None.is c.next.ensures.steps in
    holds_names _ c.loop-name.lacking c.unless_empty.result c.unless_empty.ensures (λ name.
    c.loop-name.invariant name
    ∙ ap (λ b. b && not (list_any (is_named name) (map (as_rule g.S.Numbered.number) c.args.rules.now)))
    (sym (list_any-map deref (λ k. bytes_eq name k.now) c.loop-name.yielded) ∙ ap (list_any (λ k. bytes_eq name k.now)) all.0
    ∙ sym (is_some-lookup (λ k. bytes_eq name k.now) ids.entries) ∙ sym (some_of g.S.Numbered.number (get_by (λ k. bytes_eq name k.now) ids))))
