use Rattle.std.proofs.Common.{List, sym, map, length, option_map, ap, subst, ◌∙◌}
use Rattle.lrlex_base.specs.Lexemes.{lexeme_seen}
use Rattle.lrlex_rules.specs.RuleParts.{state_number}
use Rattle.lrlex.specs.Pieces.{ArePieces}
use Rattle.lrlex.specs.Views.{definition_of, item_of}
use Rattle.lrlex.specs.declared.reading.pieces.Piece as cut
use Rattle.lrlex_handles.specs.Answers.{lexed_by}
use Rattle.lrlex_handles.specs.Buffers.{filled, piece_by}
use Rattle.lrlex_handles.specs.declared.structs.Piece.{Piece}
use Rattle.lrlex_handles.proofs.Fills.{lexed_as, counted_as}
use Rattle.lrlex_handles.proofs.lexing.pieces_by.Goals as goal

pub returns : goal.returns
returns c =
    let r = c.in_ok-run.run' in record {
      found = map (item_of (λ n. n) lexeme_seen) r.items;
      bounds = r.boundaries;
      run = c.in_ok-run.ensures.run;
      cuts = c.in_ok-found.found.items;
      cuts-are = subst (λ t. ArePieces (definition_of (λ n. n) c.args.definition.now) t r.boundaries c.in_ok-found.found.items) c.in_ok-run.ensures.text
          (subst (λ d. ArePieces (definition_of (λ n. n) d) r.text r.boundaries c.in_ok-found.found.items) c.in_ok-run.ensures.definition c.in_ok-found.ensures);
      pieces-are = c.copy_pieces.ensures ∙ ap (λ xs. filled (λ (p : cut.Piece) (t : Piece). piece_by p) xs c.args.pieces.now) c.deref.ensures.value;
      lexed-is = counted_as c.lexed_of.result (lexed_by (map (item_of (λ n. n) lexeme_seen) r.items) r.boundaries) c.len.result (length c.in_ok-found.found.items)
          (lexed_as (item_of (λ n. n) lexeme_seen) r.items c.items.result.now r.boundaries c.lexed_of.result c.end.result (option_map state_number c.end_state.result) c.lexed_of.ensures c.items.ensures c.end.ensures c.end_state.ensures)
          (c.len.ensures ∙ sym c.deref.ensures.len ∙ ap (λ (xs : List cut.Piece). length xs) c.deref.ensures.value);
    }
