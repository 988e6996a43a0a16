-- A text is cut in one way from each stack, and what follows a boundary is what the rest of the text gives.
use Rattle.std.proofs.Common.{◌≡◌, ℕ, ◌+◌, List, [], ◌∷◌, map, drop, Some, slice_get, sym, ap, ◌∙◌, arith}
use Rattle.lrlex_rules.specs.Definition.{Definition}
use Rattle.lrlex_rules.specs.Tiling.{Item, IsTiling, HasOneTiling, items, moved}
use Rattle.lrlex_boundaries.specs.Entries.{plain}
use Rattle.lrlex_boundaries.specs.Boundaries.{Boundary}
use Rattle.lrlex.specs.Moves.{items_from}
use Rattle.lrlex.specs.Reach.{IsLexed}
use Rattle.lrlex_rules.proofs.TilingLemmas.{one_tiling}
use Rattle.lrlex.proofs.TailLemmas.{tail_tiling, items_moved}
use Rattle.lrlex_rules.proofs.BestLemmas.{a_tiling}
use Rattle.lrlex.proofs.SpliceLemmas.{AtBoundary, at_bound, tail_items}

pub one_way : (d : Definition) (text stack : List ℕ) → HasOneTiling d text stack
one_way d text stack =
    let h = a_tiling d text stack in
    record {
      cut = h.tiles;
      end = h.end;
      tiling = h.is;
      only = λ ts e is. let same = one_tiling d text stack ts h.tiles e h.end is h.is in (same.tiles, same.end);
    }

module _ (d : Definition) (text : List ℕ) (found : List Item) (bounds : List Boundary) (h : IsLexed d text found bounds) (k : ℕ) (m : Boundary) (at : slice_get bounds k ≡ Some m) where
  boundary : AtBoundary d text h.cut h.end found bounds k m
  boundary = record { tiling = h.tiling; items_are = h.items_are; boundaries_are = h.boundaries_are; at = at }

  pub rest_tiling : IsTiling d (drop m.place text) (plain m.entries) (drop k h.cut) h.end
  rest_tiling = tail_tiling d text 0 (0 ∷ []) h.cut h.end k m.place (plain m.entries) h.tiling (at_bound d text h.cut h.end found bounds k m boundary)

  pub rest_items : items_from m.place found ≡ map (moved m.place) (items d 0 (drop k h.cut) h.end)
  rest_items =
      let z : m.place + 0 ≡ m.place = omega arith in
      tail_items d text h.cut h.end found bounds k m boundary
      ∙ ap (λ i. items d i (drop k h.cut) h.end) (sym z)
      ∙ items_moved d m.place 0 (drop k h.cut) h.end
