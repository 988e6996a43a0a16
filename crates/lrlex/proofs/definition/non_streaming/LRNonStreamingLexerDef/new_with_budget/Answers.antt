use Rattle.std.proofs.Common.{subst}
use Rattle.lrlex_parser.specs.LexBuildResult.{IsAnswer}
use Rattle.lrlex_definition.specs.RuleTable.{definition_by}
use Rattle.lrlex.proofs.definition.non_streaming.LRNonStreamingLexerDef.new_with_budget.Goals as goal

pub returns-in-Ok-clause-answer : goal.returns-in-Ok-clause-answer
returns-in-Ok-clause-answer g c =
    let number = g.L.StorageT.Numbered.number in
    subst (IsAnswer (definition_by number) c.args.flags g.L.StorageT.Numbered.greatest c.args.text.now) c.in-Ok.is c.in_ok-table.ensures.answer
