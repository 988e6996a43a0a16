use Rattle.std.proofs.Common.{subst}
use Rattle.lrlex_parser.specs.LexBuildResult.{IsAnswer}
use Rattle.lrlex.specs.Views.{definition_of}
use Rattle.lrlex_handles.specs.Settings.{flags_by}
use Rattle.lrlex_handles.proofs.checking.checked.Goals as goal

pub returns-clause-answer : goal.returns-clause-answer
returns-clause-answer c = record {
  read = c.in-Err.field-0;
  is_refused = subst (λ a. IsAnswer (definition_of (λ n. n)) (flags_by c.args.options.now) 4294967295 c.args.rules.now a) c.in-Err.is c.in_ok-definition.ensures;
  all = c.in_ok-refused-in-Err.ensures.all;
  begins = c.in_ok-refused-in-Err.ensures.begins;
}
