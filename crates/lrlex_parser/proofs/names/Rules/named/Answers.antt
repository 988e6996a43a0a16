use Rattle.std.proofs.Common.{◌∙◌, Option, Bor, List, ℕ, Some, None, sym, ap, map}
use Rattle.std.specs.Option.{option_map, option_copied}
use Rattle.std.specs.List.{slice_get}
use Rattle.lrlex_parser.specs.Outcome.{has_name, rule_with_name}
use Rattle.lrlex_rules.specs.RuleParts.{as_rule}
use Rattle.lrlex_parser.proofs.Places.{first_at, got}
use Rattle.lrlex_parser.proofs.names.Rules.named.Goals as goal

pub returns-in-Some : goal.returns-in-Some
returns-in-Some g c =
    let name = c.in_ok-name.field-0.now in
    let all = c.args.self.now.list.items in
    ap (option_map (as_rule g.StorageT.Numbered.number)) (got c.deref.result.now c.in-Some.place.now c.get-in-Some.result c.get-in-Some.ensures.lookup ∙ ap (λ xs. slice_get xs c.in-Some.place.now) c.deref.ensures.value)
    ∙ first_at (has_name name) (as_rule g.StorageT.Numbered.number) all (Some c.in-Some.place.now) (c.in-Some.ensures.value ∙ c.args.self.now.placed name)
    ∙ ap (λ (o : Option (Bor (List ℕ))). rule_with_name (map (as_rule g.StorageT.Numbered.number) all) (option_copied o)) (sym c.in_ok-name.was)

pub returns-in-None : goal.returns-in-None
returns-in-None g c =
    let name = c.in_ok-name.field-0.now in
    let all = c.args.self.now.list.items in
    first_at (has_name name) (as_rule g.StorageT.Numbered.number) all None (c.in-None.ensures.value ∙ c.args.self.now.placed name)
    ∙ ap (λ (o : Option (Bor (List ℕ))). rule_with_name (map (as_rule g.StorageT.Numbered.number) all) (option_copied o)) (sym c.in_ok-name.was)
