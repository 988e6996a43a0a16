use Rattle.std.proofs.Common.{drop, option_map, ap, ◌∙◌}
use Rattle.lrlex_base.specs.Lexemes.{lexeme_seen}
use Rattle.lrlex_rules.specs.RuleParts.{state_number}
use Rattle.lrlex.specs.Views.{item_of}
use Rattle.lrlex_handles.specs.Buffers.{filled, put_token}
use Rattle.lrlex_handles.proofs.Fills.{filled-map, drop_map, lexed_as}
use Rattle.lrlex_handles.proofs.documents.tokens.tokens_by.Goals as goal

pub returns-clause-tokens : goal.returns-clause-tokens
returns-clause-tokens c =
    let items = c.args.document.now.items in
    c.copy_tokens.ensures
    ∙ ap (λ xs. filled (λ x. put_token (item_of (λ n. n) lexeme_seen x)) xs c.args.tokens.now) (c.items_from.ensures ∙ ap (λ xs. drop c.args.first xs) c.items.ensures)
    ∙ filled-map (item_of (λ n. n) lexeme_seen) put_token (drop c.args.first items) c.args.tokens.now
    ∙ ap (λ xs. filled put_token xs c.args.tokens.now) (drop_map (item_of (λ n. n) lexeme_seen) c.args.first items)

pub returns-clause-lexed : goal.returns-clause-lexed
returns-clause-lexed c =
    lexed_as (item_of (λ n. n) lexeme_seen) c.args.document.now.items c.items-2.result.now c.args.document.now.boundaries c.lexed_of.result c.end.result
    (option_map state_number c.end_state.result) c.lexed_of.ensures c.items-2.ensures c.end.ensures c.end_state.ensures
