use Rattle.std.proofs.Common.{ap, ◌∙◌}
use Rattle.std.specs.Arc.{arc_value}
use Rattle.lrlex_base.specs.Lexemes.{lexeme_seen}
use Rattle.lrlex.specs.Document.{lexed_bytes, lexed_items, lexed_boundaries}
use Rattle.lrlex.specs.Views.{definition_of, items_by}
use Rattle.lrlex.proofs.ItemLemmas.{known_run}
use Rattle.lrlex_handles.proofs.KnownRuns.{pieces_known}
use Rattle.lrlex_handles.proofs.Fills.{same_run}
use Rattle.lrlex_handles.proofs.documents.pieces.pieces_of.Goals as goal

pub returns-clause-done : goal.returns-clause-done
returns-clause-done c =
    let it = c.args.it in
    let made = c.of_text-document in
    let h = known_run (definition_of (λ n. n) (arc_value it.definition)) (lexed_bytes it.text) (items_by (λ n. n) lexeme_seen (lexed_items it.text)) (lexed_boundaries it.text) it.lexed.2 in
    let found = items_by (λ n. n) lexeme_seen made.result.items in
    let p = ap (λ d. definition_of (λ n. n) d) (made.ensures.definition ∙ c.deref.ensures) in
    let run = same_run (definition_of (λ n. n) made.result.definition) (definition_of (λ n. n) (arc_value it.definition)) made.result.text (lexed_bytes it.text) found (items_by (λ n. n) lexeme_seen (lexed_items it.text)) made.result.boundaries (lexed_boundaries it.text)
    p made.ensures.text (ap (λ xs. items_by (λ n. n) lexeme_seen xs) made.ensures.items) made.ensures.boundaries h in
    pieces_known (definition_of (λ n. n) made.result.definition) (definition_of (λ n. n) (arc_value it.definition)) made.result.text (lexed_bytes it.text) found made.result.boundaries c.args.pieces.now c.pieces_by-answer.new.pieces c.pieces_by-answer.result
    p made.ensures.text run c.pieces_by-answer.ensures
