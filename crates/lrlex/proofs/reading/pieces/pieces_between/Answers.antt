-- The boundaries are those of the run's tiling, so that a winner is there, and it is the next tile.
use Rattle.std.proofs.Common.{◌≡◌, ◌+◌, ◌<◌, true, [], ◌∷◌, length, drop, sym, ap, ◌∙◌, subst, arith, IsCharBoundary, length-append}
use Rattle.std.proofs.lemmas.Option.{slice_get_within}
use Rattle.std.proofs.lemmas.Str.{IsCharBoundary-from_rest}
use Rattle.lrlex_table.specs.Reach.{IsText}
use Rattle.lrlex_table.proofs.ByteLemmas.{are_bytes}
use Rattle.lrlex_rules.specs.Active.{is_state}
use Rattle.lrlex_definition.specs.RuleTable.{AreOf}
use Rattle.lrlex_boundaries.specs.Boundaries.{no_boundary, boundary_at}
use Rattle.lrlex.specs.Pieces.{IsPiece}
use Rattle.lrlex_boundaries.specs.Entries.{plain, AreEntries}
use Rattle.lrlex_rules.specs.Tiling.{Tile, Wins, top}
use Rattle.lrlex_definition.specs.RuleTable.{definition_by}
use Rattle.lrlex.proofs.PieceLemmas.{tile_at, between_characters, next_place, top_at, won_at, wins_there, row_and_next}
use Rattle.lrlex.proofs.reading.pieces.pieces_between.Goals as goal

pub tiles-init : goal.tiles-init
tiles-init g c =
    let def = c.args.table.now in
    let d = definition_by g.S.Numbered.number def in
    let text = c.args.text.now in
    let bounds = c.args.boundaries.now in
    let initial = c.requires.initial in
    let is : IsText text = record { bytes = are_bytes text c.type_inv.text; utf8 = c.utf8.text } in
    record {
      searcher = c.in_ok-searcher.ensures.searcher;
      rules = subst (λ q. AreOf g.S.Numbered.number def q c.rules_in-rules.result) (sym c.rules_in-rules.ensures.state) c.rules_in-rules.ensures.rules;
      boundary = subst (IsCharBoundary text) (sym c.place-place.ensures) (between_characters d text c.requires.lexed.0 bounds c.requires.lexed.1 is initial c.args.first (omega (arith, c.requires.order, c.requires.within)));
      many = omega (arith, ap length c.in_ok-pieces.ensures.items);
      at = λ found h. sym c.place-place.ensures;
      row = λ found h k t p at there. absurd (omega (arith, slice_get_within c.in_ok-pieces.pieces.items k p there, ap length c.in_ok-pieces.ensures.items));
    }

pub top_of-state-requires : goal.top_of-state-requires
top_of-state-requires g c =
    let d = definition_by g.S.Numbered.number c.args.table.now in
    let initial = c.requires.initial in
    let h = c.requires.lexed.1 in
    subst AreEntries (sym c.stack.ensures) (h.entries c.tiles.index no_boundary (omega (arith, c.tiles-test.true, c.requires.within)))

pub rules_at-rules-requires-clause-id : goal.rules_at-rules-requires-clause-id
rules_at-rules-requires-clause-id g c =
    let d = definition_by g.S.Numbered.number c.args.table.now in
    let text = c.args.text.now in
    let bounds = c.args.boundaries.now in
    let initial = c.requires.initial in
    let is : IsText text = record { bytes = are_bytes text c.type_inv.text; utf8 = c.utf8.text } in
    let on_top : top (plain (boundary_at bounds c.tiles.index).entries) ≡ c.top_of-state.result = sym (c.top_of-state.ensures ∙ ap (λ s. top (plain s)) c.stack.ensures) in
    subst (λ q. is_state d q ≡ true) on_top
    (top_at d text c.requires.lexed.0 bounds (c.requires.lexed.1) is initial c.tiles.index (omega (arith, c.tiles-test.true, c.requires.within)))

pub tile_of-requires-clause-searcher : goal.tile_of-requires-clause-searcher
tile_of-requires-clause-searcher g c =
    (c.args.text.now, c.tiles.invariant.searcher, c.range_from-rest.ensures.value, c.tiles.invariant.boundary.0)

pub tile_of-requires-clause-some : goal.tile_of-requires-clause-some
tile_of-requires-clause-some g c =
    let d = definition_by g.S.Numbered.number c.args.table.now in
    let text = c.args.text.now in
    let bounds = c.args.boundaries.now in
    let found = c.requires.lexed.0 in
    let initial = c.requires.initial in
    let h = c.requires.lexed.1 in
    let is : IsText text = record { bytes = are_bytes text c.type_inv.text; utf8 = c.utf8.text } in
    let lt : c.tiles.index + 1 < length bounds = omega (arith, c.tiles-test.true, c.requires.within) in
    let on_top : top (plain (boundary_at bounds c.tiles.index).entries) ≡ c.top_of-state.result = sym (c.top_of-state.ensures ∙ ap (λ s. top (plain s)) c.stack.ensures) in
    let t = tile_at d text found bounds h is initial c.tiles.index in
    let rest : drop (boundary_at bounds c.tiles.index).place text ≡ c.range_from-rest.result.now = ap (λ n. drop n text) (c.tiles.invariant.at found h) ∙ sym c.range_from-rest.ensures.value in (
      (t.rule, t.len),
      subst (λ q. Wins d q c.range_from-rest.result.now t.rule t.len) on_top
          (subst (λ w. Wins d (top (plain (boundary_at bounds c.tiles.index).entries)) w t.rule t.len) rest (wins_there d text found bounds h is initial c.tiles.index lt)),
    )

pub piece_of-requires-clause-ends : goal.piece_of-requires-clause-ends
piece_of-requires-clause-ends g c =
    let text = c.args.text.now in
    IsCharBoundary-from_rest text c.tiles.place c.in_ok-tile.tile.len c.tiles.invariant.boundary.0 (subst (λ w. IsCharBoundary w c.in_ok-tile.tile.len) c.range_from-rest.ensures.value c.in_ok-tile.ensures.boundary)

pub tiles-preserved : goal.tiles-preserved
tiles-preserved g c =
    let def = c.args.table.now in
    let d = definition_by g.S.Numbered.number def in
    let text = c.args.text.now in
    let bounds = c.args.boundaries.now in
    let i = c.tiles.index in
    let initial = c.requires.initial in
    let is : IsText text = record { bytes = are_bytes text c.type_inv.text; utf8 = c.utf8.text } in
    let lt : i + 1 < length bounds = omega (arith, c.tiles-test.true, c.requires.within) in
    let tile : Tile = record { rule = c.in_ok-tile.tile.rule; len = c.in_ok-tile.tile.len } in
    let on_top : c.top_of-state.result ≡ top (plain (boundary_at bounds i).entries) = c.top_of-state.ensures ∙ ap (λ s. top (plain s)) c.stack.ensures in
    let inv = c.tiles.invariant in
    record {
      searcher = c.in_ok-tile.ensures.searcher text inv.searcher;
      rules = subst (λ q. AreOf g.S.Numbered.number def q c.rules_at-rules.result) (sym c.rules_at-rules.ensures.state) c.rules_at-rules.ensures.rules;
      boundary = IsCharBoundary-from_rest text c.tiles.place c.in_ok-tile.tile.len inv.boundary.0 (subst (λ w. IsCharBoundary w c.in_ok-tile.tile.len) c.range_from-rest.ensures.value c.in_ok-tile.ensures.boundary);
      many = omega (arith, ap length c.in_ok-push.ensures.items, length-append c.tiles.pieces.items (c.piece_of.result ∷ []), inv.many);
      at = λ found h.
          let rest : c.range_from-rest.result.now ≡ drop (boundary_at bounds i).place text = c.range_from-rest.ensures.value ∙ sym (ap (λ n. drop n text) (inv.at found h)) in
          let won = won_at d text found bounds h is initial i lt tile.rule tile.len (subst (λ q. Wins d q (drop (boundary_at bounds i).place text) tile.rule tile.len) on_top
          (subst (λ w. Wins d c.top_of-state.result w tile.rule tile.len) rest c.in_ok-tile.ensures.wins)) in
          next_place d text found bounds h is initial i lt ∙ ap (λ (t : Tile). (boundary_at bounds i).place + t.len) won ∙ ap (λ n. n + tile.len) (inv.at found h);
      row = λ found h k t p at there.
          let rest : c.range_from-rest.result.now ≡ drop (boundary_at bounds i).place text = c.range_from-rest.ensures.value ∙ sym (ap (λ n. drop n text) (inv.at found h)) in
          let won = won_at d text found bounds h is initial i lt tile.rule tile.len (subst (λ q. Wins d q (drop (boundary_at bounds i).place text) tile.rule tile.len) on_top
          (subst (λ w. Wins d c.top_of-state.result w tile.rule tile.len) rest c.in_ok-tile.ensures.wins)) in
          let new : IsPiece d text (boundary_at bounds (c.args.first + length c.tiles.pieces.items)).place (tile_at d text found bounds h is initial (c.args.first + length c.tiles.pieces.items)) c.piece_of.result =
          subst (λ n. IsPiece d text (boundary_at bounds n).place (tile_at d text found bounds h is initial n) c.piece_of.result) (sym inv.many)
          (subst (λ (u : Tile). IsPiece d text (boundary_at bounds i).place u c.piece_of.result) (sym won)
          (subst (λ n. IsPiece d text n tile c.piece_of.result) (sym (inv.at found h)) c.piece_of.ensures)) in
          row_and_next d text found bounds h is initial c.args.first c.tiles.pieces.items c.piece_of.result (inv.row found h) new k t p at (rw c.in_ok-push.ensures.items at there);
    }

pub returns-clause-tiles : goal.returns-clause-tiles
returns-clause-tiles g c = record {
  within = omega (arith, c.requires.order, c.requires.within, c.tiles.invariant.many, c.tiles-test.false, c.tiles.auto.index-end);
  each = c.tiles.invariant.row;
}
