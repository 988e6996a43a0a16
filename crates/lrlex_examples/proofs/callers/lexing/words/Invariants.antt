use Rattle.std.proofs.Common.{◌≡◌, ◌++◌, map}
use Rattle.std.specs.List.{filter_map}
use Rattle.lrlex_base.specs.Items.{items_left}
use Rattle.lrlex.specs.Views.{definition_of, items_by}
use Rattle.lrlex_examples.specs.Lexing.{word_of, shown}
use Rattle.lrlex_base.specs.Lexemes.{lexeme_seen}
use Rattle.lrlex_examples.proofs.WordLemmas.{number}
use Rattle.lrlex_examples.proofs.callers.lexing.words.Given as goal

abbrev pub invariant-loop-item : goal.invariant-loop-item
invariant-loop-item l = record {
  can_next : (goal.iterator-loop-item).can_next l.item-iterator;
  finite : (goal.iterator-loop-item).is_finite l.item-iterator;
  items : items_left l.initial.item-iterator ≡ l.yielded ++ items_left l.item-iterator;
  words : map shown l.words.items ≡ filter_map (word_of (definition_of number l.definition).rules l.text)
      (items_by number lexeme_seen l.yielded);
}
