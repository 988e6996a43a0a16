use Rattle.std.proofs.Common.{◌≡◌, ◌∙◌, ℕ, ◌∷◌, ◌++◌, [], List, Option, Some, Ok, map, ap, sym, subst, refl, append_assoc, unwrap_or}
use Rattle.std.specs.Borrow.{Bor}
use Rattle.lrlex_base.specs.Items.{items_left}
use Rattle.lrlex_base.specs.Spans.{span_start, span_end}
use Rattle.std.specs.List.{filter_map}
use Rattle.lrlex.specs.ItemLaws.{FitsText}
use Rattle.lrlex.specs.Lexer.{lexer_items, lexer_text}
use Rattle.lrlex.specs.Views.{definition_of, item_of}
use Rattle.lrlex_examples.specs.Lexing.{word_of, shown}
use Rattle.lrlex_examples.proofs.WordLemmas.{number, text_or, word_is, span_fits, at_front, word_more, word_none}
use Rattle.lrlex_base.specs.Lexemes.{lexeme_seen}
use Rattle.lrlex_examples.proofs.callers.lexing.words.Goals as goal

pub span_str-requires : goal.span_str-requires
span_str-requires c =
    let text = c.args.text.now in
    let item = item_of number lexeme_seen in
    let first : items_left c.loop-item.item-iterator ≡ c.in-Some.item ∷ items_left c.next.new.self = c.in-Some.ensures.steps in
    let whole : lexer_items c.in_ok-lexer.lexer ≡ c.loop-item.yielded ++ c.in-Some.item ∷ items_left c.next.new.self =
    sym (ap items_left c.into_iter-item-iterator.ensures.into_iter_gives ∙ c.iter-item-items.ensures) ∙ c.loop-item.invariant.items ∙ ap (λ xs. c.loop-item.yielded ++ xs) first in
    let fits : FitsText text (item (Ok c.in-Ok.lexeme)) =
    subst (λ x. FitsText text (item x)) c.in-Ok.is (at_front (FitsText text) item (lexer_items c.in_ok-lexer.lexer) c.loop-item.yielded (items_left c.next.new.self) c.in-Some.item whole c.in_ok-lexer.ensures.fit) in
    let x = c.in-Ok.lexeme in
    span_fits text (lexer_text c.in_ok-lexer.lexer) (lexeme_seen x).start (lexeme_seen x).len (span_start c.span.result) (span_end c.span.result) c.in_ok-lexer.ensures.text c.span.ensures.start c.span.ensures.end fits

pub loop-item-preserved-in-Continue-branch-2 : goal.loop-item-preserved-in-Continue-branch-2
loop-item-preserved-in-Continue-branch-2 c =
    let d = definition_of number c.args.definition.now in
    let item = item_of number lexeme_seen in
    let first : items_left c.loop-item.item-iterator ≡ c.in-Some.item ∷ items_left c.next.new.self = c.in-Some.ensures.steps in
    let text = c.args.text.now in
    let x = c.in-Ok.lexeme in
    let word : word_of d.rules text (item c.in-Some.item) ≡ Some (shown (c.unwrap_or-name.result, c.span_str.result)) =
    ap (λ y. word_of d.rules text (item y)) c.in-Ok.is ∙ word_is d.rules d.rules text (lexer_text c.in_ok-lexer.lexer) c.unwrap_or-name.result.now c.span_str.result.now
    (number (lexeme_seen x).id) (lexeme_seen x).start (lexeme_seen x).len (lexeme_seen x).faulty (number c.tok_id.result) (span_start c.span.result) (span_end c.span.result)
    (ap (λ (s : Bor (List ℕ)). s.now) c.unwrap_or-name.ensures ∙ text_or c.name_of.result _ ∙ ap (λ (o : Option (List ℕ)). unwrap_or o []) c.name_of.ensures) refl (ap number c.tok_id.ensures) c.span_str.ensures c.in_ok-lexer.ensures.text c.span.ensures.start c.span.ensures.end in
    record {
      can_next = tt;
      finite = tt;
      items = c.loop-item.invariant.items ∙ ap (λ xs. c.loop-item.yielded ++ xs) first ∙ sym (append_assoc c.loop-item.yielded (c.in-Some.item ∷ []) (items_left c.next.new.self));
      words = subst (λ ws. map shown ws ≡ filter_map (word_of d.rules text) (map item (c.loop-item.yielded ++ c.in-Some.item ∷ []))) (sym c.in_ok-push.ensures.items)
          (word_more shown (word_of d.rules text) item c.loop-item.words.items c.loop-item.yielded c.in-Some.item c.loop-item.invariant.words (c.unwrap_or-name.result, c.span_str.result) word);
    }

pub loop-item-preserved : goal.loop-item-preserved
loop-item-preserved c =
    let d = definition_of number c.args.definition.now in
    let item = item_of number lexeme_seen in
    let first : items_left c.loop-item.item-iterator ≡ c.in-Some.item ∷ items_left c.next.new.self = c.in-Some.ensures.steps in
    record {
      can_next = tt;
      finite = tt;
      items = c.loop-item.invariant.items ∙ ap (λ xs. c.loop-item.yielded ++ xs) first ∙ sym (append_assoc c.loop-item.yielded (c.in-Some.item ∷ []) (items_left c.next.new.self));
      words = word_none shown (word_of d.rules c.args.text.now) item c.loop-item.words.items c.loop-item.yielded c.in-Some.item c.loop-item.invariant.words (ap (λ x. word_of d.rules c.args.text.now (item x)) c.in_default.is);
    }
