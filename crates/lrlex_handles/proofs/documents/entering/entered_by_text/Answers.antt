use Rattle.std.proofs.Common.{ap, refl}
use Rattle.std.specs.Arc.{arc_value}
use Rattle.lrlex_base.specs.Lexemes.{lexeme_seen}
use Rattle.lrlex.specs.Document.{lexed_bytes, lexed_items, lexed_boundaries}
use Rattle.lrlex.specs.Views.{definition_of, items_by}
use Rattle.lrlex.proofs.ItemLemmas.{known_run}
use Rattle.lrlex_handles.proofs.Fills.{same_run}
use Rattle.lrlex_handles.proofs.documents.entering.entered_by_text.Goals as goal

pub returns-clause-entered : goal.returns-clause-entered
returns-clause-entered c =
    let it = c.args.it in
    let made = c.of_text-document in
    let h = known_run (definition_of (λ n. n) (arc_value it.definition)) (lexed_bytes it.text) (items_by (λ n. n) lexeme_seen (lexed_items it.text)) (lexed_boundaries it.text) it.lexed.2 in
    record {
      found = items_by (λ n. n) lexeme_seen made.result.items;
      bounds = made.result.boundaries;
      run = same_run _ _ _ _ _ _ _ _ refl refl (ap (λ xs. items_by (λ n. n) lexeme_seen xs) made.ensures.items) made.ensures.boundaries h;
      where-is = c.entered_of-found.ensures;
    }
