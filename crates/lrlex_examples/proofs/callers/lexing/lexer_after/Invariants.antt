use Rattle.std.proofs.Common.{◌≡◌, ◌↔◌, IsUtf8, map, take, drop}
use Rattle.lrlex.specs.Reach.{IsRun}
use Rattle.lrlex.specs.Views.{definition_of, items_by}
use Rattle.lrlex_examples.specs.Lexing.{AreSteps, text_after}
use Rattle.lrlex_base.specs.Lexemes.{lexeme_seen}
use Rattle.lrlex_examples.proofs.WordLemmas.{number}
use Rattle.lrlex_examples.proofs.callers.lexing.lexer_after.Given as goal

abbrev pub invariant-loop-edit : goal.invariant-loop-edit
invariant-loop-edit l = record {
  definition : l.run.definition ≡ l.definition;
  text : l.run.text ≡ l.now;
  utf8 : IsUtf8 l.now;
  now : l.now ≡ text_after l.text (map (λ s. s.0) (take l.edit-index l.steps));
  steps : AreSteps l.text l.steps ↔ AreSteps l.now (drop l.edit-index l.steps);
  run : IsRun (definition_of number l.definition) l.now (items_by number lexeme_seen l.run.items) l.run.boundaries;
}
