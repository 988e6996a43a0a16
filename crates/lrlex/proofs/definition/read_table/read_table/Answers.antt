use Rattle.std.proofs.Common.{Ok, ap, sym, subst, ◌∙◌}
use Rattle.std.specs.Prelude.{◌≡◌, IfOk, Some, slice_get}
use Rattle.lrlex_parser.specs.LexBuildResult.{IsAnswer}
use Rattle.lrlex_parser.specs.Declaration.{initial}
use Rattle.lrlex_rules.specs.Definition.{Definition}
use Rattle.lrlex_parser.specs.DefinitionLaws.{IsLawful}
use Rattle.lrlex_parser.specs.LexParser.{as_definition}
use Rattle.lrlex_definition.specs.RuleTable.{definition_by}
use Rattle.lrlex.proofs.ReadLemmas.{definition_by-parts, has_initial}
use Rattle.lrlex.proofs.definition.read_table.read_table.Goals as goal

pub returns-in_ok-made-in-Ok-clause-answer : goal.returns-in_ok-made-in-Ok-clause-answer
returns-in_ok-made-in-Ok-clause-answer g c =
    let number = g.S.Numbered.number in
    let made = c.in_ok-made-in-Ok in
    let said : IsAnswer (as_definition number) c.args.flags g.S.Numbered.greatest c.args.text.now (Ok c.in-Ok.file) =
    subst (IsAnswer (as_definition number) c.args.flags g.S.Numbered.greatest c.args.text.now) c.in-Ok.is c.in_ok-file.ensures.answer in
    ap (λ (d : Definition). Ok d) (definition_by-parts number made.field-0 c.in-Ok.file made.ensures.rules made.ensures.states made.ensures.flags) ∙ said

pub returns-in_ok-made-in-Ok-clause-lawful : goal.returns-in_ok-made-in-Ok-clause-lawful
returns-in_ok-made-in-Ok-clause-lawful g c =
    let number = g.S.Numbered.number in
    let made = c.in_ok-made-in-Ok in
    let said : IsLawful c.args.text.now (as_definition number c.in-Ok.file) =
    subst (λ answer. IfOk answer (λ file. IsLawful c.args.text.now (as_definition number file))) c.in-Ok.is c.in_ok-file.ensures.lawful in
    subst (IsLawful c.args.text.now) (sym (definition_by-parts number made.field-0 c.in-Ok.file made.ensures.rules made.ensures.states made.ensures.flags)) said

pub returns-in_ok-made-in-Ok-clause-initial : goal.returns-in_ok-made-in-Ok-clause-initial
returns-in_ok-made-in-Ok-clause-initial g c =
    let number = g.S.Numbered.number in
    let made = c.in_ok-made-in-Ok in
    let first : slice_get (as_definition number c.in-Ok.file).states 0 ≡ Some initial =
    subst (λ answer. IfOk answer (λ file. slice_get (as_definition number file).states 0 ≡ Some initial)) c.in-Ok.is c.in_ok-file.ensures.first in
    has_initial (definition_by number made.field-0).states
    (subst (λ (d : Definition). slice_get d.states 0 ≡ Some initial) (sym (definition_by-parts number made.field-0 c.in-Ok.file made.ensures.rules made.ensures.states made.ensures.flags)) first)
