use Rattle.std.proofs.Common.{◌∙◌, Some, None, ap}
use Rattle.std.specs.Option.{option_map}
use Rattle.std.specs.List.{slice_get}
use Rattle.lrlex_parser.specs.Text.{same_text}
use Rattle.lrlex_rules.specs.RuleParts.{as_state}
use Rattle.lrlex_parser.proofs.Places.{first_at, got}
use Rattle.lrlex_parser.proofs.names.States.named.Goals as goal

pub returns-in-Some : goal.returns-in-Some
returns-in-Some c =
    ap (option_map as_state) (got c.deref.result.now c.in-Some.place.now c.get-in-Some.result c.get-in-Some.ensures.lookup ∙ ap (λ xs. slice_get xs c.in-Some.place.now) c.deref.ensures.value)
    ∙ first_at (λ s. same_text s.name c.args.name.now) as_state c.args.self.now.list.items (Some c.in-Some.place.now) (c.in-Some.ensures.value ∙ c.args.self.now.placed c.args.name.now)

pub returns-in-None : goal.returns-in-None
returns-in-None c =
    first_at (λ s. same_text s.name c.args.name.now) as_state c.args.self.now.list.items None (c.in-None.ensures.value ∙ c.args.self.now.placed c.args.name.now)
