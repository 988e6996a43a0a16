-- What an edit leaves of a run.
use Rattle.std.proofs.Common.{◌≡◌, ℕ, zero, suc, ◌+◌, ◌-◌, ◌<◌, ◌≤◌, true, false, List, [], ◌∷◌, ◌++◌, length, map, take, drop, get_or, Some, slice_get, refl, sym, ap, ap₂, ◌∙◌, subst, inl, inr, arith, append_assoc, length-append, drop-cons, IsCharBoundary}
use Rattle.std.proofs.lemmas.Bool.{cases_lt, cond-true, cond-false}
use Rattle.std.proofs.lemmas.Option.{same_Some, slice_get-get_or, get_or_from_slice_get}
use Rattle.std.proofs.lemmas.List.{append-nil, length-drop, length-map, length-take-le, drop-drop, drop-take, get_or-take, take_more, take_at, take-map}
use Rattle.std.proofs.lemmas.List.Elements.{All-drop, All-take, All-head, All-tail}
use Rattle.std.proofs.lemmas.Str.{IsUtf8-drop, IsCharBoundary-start, IsCharBoundary-from_rest}
use Rattle.lrlex_base.specs.Spans.{span}
use Rattle.lrlex_base.specs.Edits.{edited}
use Rattle.lrlex_rules.specs.Definition.{Definition}
use Rattle.lrlex_table.specs.Reach.{IsText}
use Rattle.lrlex_rules.specs.Active.{is_state}
use Rattle.lrlex_rules.specs.Tiling.{Tile, Item, End, top, IsTaken, stack_past, IsTiling, tile_items, items, lexemes, boundaries}
use Rattle.lrlex_boundaries.specs.Entries.{plain, AreEntries}
use Rattle.lrlex_boundaries.specs.Boundaries.{Boundary, place_and_stack, no_boundary, boundary_at}
use Rattle.lrlex.specs.Moves.{begins_before}
use Rattle.lrlex.specs.Reach.{Reached, IsLexed}
use Rattle.lrlex.specs.Lookahead.{IsDecidedAt, AreDecided, items_before, GoesOn, BeginAlike}
use Rattle.lrlex_rules.proofs.TilingLemmas.{Wins-le}
use Rattle.lrlex.proofs.TailLemmas.{tail_tiling}
use Rattle.lrlex_rules.proofs.BestLemmas.{a_tiling}
use Rattle.lrlex.proofs.PeakLemmas.{tiles_are}
use Rattle.lrlex.proofs.WithinLemmas.{AreBefore, AreFrom, IsParted, tail_from}
use Rattle.lrlex.proofs.ItemLemmas.{Wins-cut}
use Rattle.lrlex.proofs.SpliceLemmas.{boundaries_tail, AtBoundary, at_bound, parted}
use Rattle.lrlex.proofs.ReachLemmas.{AreStates, one_state, Reached-more, bounds_now, length_now}
use Rattle.lrlex_rules.proofs.ScanLemmas.{slice_get-drop}

-- ---- texts that begin alike

pub text_from : (text : List ℕ) (p : ℕ) → IsText text → IsCharBoundary text p → IsText (drop p text)
text_from text p is cut = record { bytes = All-drop (λ b. b < 256) p text is.bytes; utf8 = IsUtf8-drop text p is.utf8 cut }

pub alike_from : (low p : ℕ) (a b : List ℕ) → take low b ≡ take low a → take (low - p) (drop p b) ≡ take (low - p) (drop p a)
alike_from low p a b same = elim (cases_lt low p) [
  | inl lt ↦ let none : low - p ≡ 0 = omega arith in ap (λ n. take n (drop p b)) none ∙ ap (λ n. take n (drop p a)) (sym none)
  | inr ge ↦
      let all : p + (low - p) ≡ low = omega arith in
      sym (drop-take p (low - p) b) ∙ ap (λ n. drop p (take n b)) all ∙ ap (drop p) same ∙ ap (λ n. drop p (take n a)) (sym all) ∙ drop-take p (low - p) a
]

-- an edit leaves what stands before it
pub alike-edited : (old new put : List ℕ) (low high : ℕ) → low ≤ length old → new ≡ edited old (span low high) put → take low new ≡ take low old
alike-edited old new put low high le gives = ap (take low) gives ∙ take_at (take low old) (put ++ drop high old) low (length-take-le low old le)

-- ---- items before a place

no_more : (p : ℕ) (ys : List Item) → AreFrom p ys → items_before p ys ≡ []
no_more p [] h = refl
no_more p (y ∷ ys) h = cond-false (begins_before p y) (y ∷ items_before p ys) [] (All-head (λ i. begins_before p i ≡ false) y ys h)

front_before : (p : ℕ) (xs ys : List Item) → AreBefore p xs → AreFrom p ys → items_before p (xs ++ ys) ≡ xs
front_before p [] ys b f = no_more p ys f
front_before p (x ∷ xs) ys b f =
    cond-true (begins_before p x) (x ∷ items_before p (xs ++ ys)) [] (All-head (λ i. begins_before p i ≡ true) x xs b)
    ∙ ap (λ is. x ∷ is) (front_before p xs ys (All-tail (λ i. begins_before p i ≡ true) x xs b) f)

part_before : (p : ℕ) (all xs ys : List Item) → IsParted p all xs ys → items_before p all ≡ xs
part_before p all xs ys h = ap (items_before p) h.is ∙ front_before p xs ys h.before h.from

-- the same of what has these items
pub before_point : {A : Type 0} (f : A → Item) (p : ℕ) (xs : List A) (n : ℕ) → n ≤ length xs → ((k : ℕ) (d : A) → k < n → begins_before p (f (get_or xs k d)) ≡ true) →
    ((k : ℕ) (d : A) → n ≤ k → k < length xs → begins_before p (f (get_or xs k d)) ≡ false) → items_before p (map f xs) ≡ map f (take n xs)
before_point f p [] zero le b after = refl
before_point f p [] (suc n) le b after = absurd (omega arith)
before_point f p (x ∷ xs) zero le b after = cond-false (begins_before p (f x)) (f x ∷ items_before p (map f xs)) [] (after 0 x (omega arith) (omega arith))
before_point f p (x ∷ xs) (suc n) le b after =
    cond-true (begins_before p (f x)) (f x ∷ items_before p (map f xs)) [] (b 0 x (omega arith))
    ∙ ap (λ is. f x ∷ is) (before_point f p xs n (omega arith) (λ k d lt. b (suc k) d (omega arith)) (λ k d ge lt. after (suc k) d (omega arith) (omega arith)))

-- ---- boundaries

first_bound : (d : Definition) (p : ℕ) (s : List ℕ) (us : List Tile) → slice_get (boundaries d p s us) 0 ≡ Some (p, s)
first_bound d p s [] = refl
first_bound d p s (u ∷ us) = refl

take_seam : (xs ys : List (ℕ × List ℕ)) (b : ℕ × List ℕ) (n : ℕ) → length xs + 1 ≡ n → take n (xs ++ b ∷ ys) ≡ xs ++ b ∷ []
take_seam xs ys b n len = ap (take n) (sym (append_assoc xs (b ∷ []) ys)) ∙ take_at (xs ++ b ∷ []) ys n (length-append xs (b ∷ []) ∙ len)

front_bounds : (d : Definition) (p : ℕ) (s : List ℕ) (us : List Tile) (xs : List (ℕ × List ℕ)) (n : ℕ) → length xs + 1 ≡ n → take n (xs ++ boundaries d p s us) ≡ xs ++ (p, s) ∷ []
front_bounds d p s [] xs n len = take_seam xs [] (p, s) n len
front_bounds d p s (u ∷ us) xs n len = take_seam xs (boundaries d (p + u.len) (stack_past d s u) us) (p, s) n len

-- ---- one tile more

no_tile : Tile
no_tile = record { rule = 0; len = 0 }

next_bound : (d : Definition) (p : ℕ) (s : List ℕ) (t : Tile) (rest : List Tile) → slice_get (boundaries d p s (t ∷ rest)) 1 ≡ Some (p + t.len, stack_past d s t)
next_bound d p s t [] = refl
next_bound d p s t (u ∷ rest) = refl

lexemes_more : (d : Definition) (place : ℕ) (stack : List ℕ) (ts : List Tile) (n p : ℕ) (s : List ℕ) → slice_get (boundaries d place stack ts) n ≡ Some (p, s) → n < length ts →
    lexemes d place (take (n + 1) ts) ≡ lexemes d place (take n ts) ++ tile_items d p (get_or ts n no_tile)
lexemes_more d place stack [] n p s at lt = absurd (omega arith)
lexemes_more d place stack (t ∷ ts) zero p s at lt =
    append-nil (tile_items d place t) ∙ ap (λ (b : ℕ × List ℕ). tile_items d b.0 t) (same_Some _ _ at)
lexemes_more d place stack (t ∷ ts) (suc n) p s at lt =
    let next : suc n + 1 ≡ suc (n + 1) = omega arith in
    ap (λ i. lexemes d place (take i (t ∷ ts))) next
    ∙ ap (λ xs. tile_items d place t ++ xs) (lexemes_more d (place + t.len) (stack_past d stack t) ts n p s at (omega arith))
    ∙ sym (append_assoc (tile_items d place t) (lexemes d (place + t.len) (take n ts)) (tile_items d p (get_or ts n no_tile)))

-- a run of the new text comes to the old boundary n by the first n of the old tiles
pub record Kept (d : Definition) (new : List ℕ) (cut : List Tile) (bounds : List Boundary) (n : ℕ) : Type 0 where
  pub reached : Reached d new (boundary_at bounds n).place (boundary_at bounds n).entries (lexemes d 0 (take n cut)) (take (n + 1) bounds) 0
  pub goes_on : (ts : List Tile) (e : End) → IsTiling d (drop (boundary_at bounds n).place new) (plain (boundary_at bounds n).entries) ts e → IsTiling d new (0 ∷ []) (take n cut ++ ts) e
  pub boundary : IsCharBoundary new (boundary_at bounds n).place

module _ (d : Definition) (old new : List ℕ) (low : ℕ) (found : List Item) (bounds : List Boundary) (h : IsLexed d old found bounds) (is : IsText new)
    (alike : take low new ≡ take low old) (initial : is_state d 0 ≡ true) where
  at_boundary : (n : ℕ) → n < length bounds → AtBoundary d old h.cut h.end found bounds n (boundary_at bounds n)
  at_boundary n lt = record { tiling = h.tiling; items_are = h.items_are; boundaries_are = h.boundaries_are; at = slice_get-get_or bounds n no_boundary lt }

  there : (n : ℕ) → n < length bounds → slice_get (boundaries d 0 (0 ∷ []) h.cut) n ≡ Some (place_and_stack (boundary_at bounds n))
  there n lt = at_bound d old h.cut h.end found bounds n (boundary_at bounds n) (at_boundary n lt)

  pub tile : ℕ → Tile
  tile n = get_or h.cut n no_tile

  pub tile_is : (n : ℕ) (t : Tile) → slice_get h.cut n ≡ Some t → tile n ≡ t
  unfolding tile
  tile_is n t at = get_or_from_slice_get h.cut n t no_tile at

  within_cut : (n : ℕ) → n + 1 < length bounds → n < length h.cut
  within_cut n lt = omega (arith, tiles_are d old found bounds h)

  -- the old tile at boundary n
  pub taken_old : (n : ℕ) → n + 1 < length bounds → IsTaken d (drop (boundary_at bounds n).place old) (plain (boundary_at bounds n).entries) (tile n)
  unfolding tile
  taken_old n lt =
      let tail = tail_tiling d old 0 (0 ∷ []) h.cut h.end n (boundary_at bounds n).place (plain (boundary_at bounds n).entries) h.tiling (there n (omega arith)) in
      (subst (λ us. IsTiling d (drop (boundary_at bounds n).place old) (plain (boundary_at bounds n).entries) us h.end) (drop-cons h.cut n no_tile (within_cut n lt)) tail).0

  -- the same tile of the new text
  pub taken_new : (n : ℕ) → n + 1 < length bounds → IsDecidedAt d old low (boundary_at bounds n) → IsCharBoundary new (boundary_at bounds n).place →
      IsTaken d (drop (boundary_at bounds n).place new) (plain (boundary_at bounds n).entries) (tile n)
  taken_new n lt decided cut =
      let m = boundary_at bounds n in
      let t = taken_old n lt in
      record {
        wins = decided.wins (drop m.place new) (text_from new m.place is cut) (alike_from low m.place old new alike) (tile n).rule (tile n).len t.wins;
        has_id = t.has_id;
        has_target = t.has_target;
      }

  -- where it leads
  pub next_boundary : (n : ℕ) → n + 1 < length bounds → place_and_stack (boundary_at bounds (n + 1)) ≡ ((boundary_at bounds n).place + (tile n).len, stack_past d (plain (boundary_at bounds n).entries) (tile n))
  unfolding tile
  next_boundary n lt =
      let m = boundary_at bounds n in
      same_Some _ _ (sym (there (n + 1) lt) ∙ sym (slice_get-drop (boundaries d 0 (0 ∷ []) h.cut) n 1)
      ∙ ap (λ bs. slice_get bs 1) (boundaries_tail d 0 (0 ∷ []) h.cut n m.place (plain m.entries) (there n (omega arith)) ∙ ap (boundaries d m.place (plain m.entries)) (drop-cons h.cut n no_tile (within_cut n lt)))
      ∙ next_bound d m.place (plain m.entries) (get_or h.cut n no_tile) (drop (suc n) h.cut))

  pub first_boundary : 0 < length bounds → place_and_stack (boundary_at bounds 0) ≡ (0, 0 ∷ [])
  first_boundary lt = same_Some _ _ (sym (there 0 lt) ∙ first_bound d 0 (0 ∷ []) h.cut)

  none_kept : 0 < length bounds → Kept d new h.cut bounds 0
  none_kept lt =
      let place : (boundary_at bounds 0).place ≡ 0 = ap (λ (b : ℕ × List ℕ). b.0) (first_boundary lt) in
      let stack : plain (boundary_at bounds 0).entries ≡ 0 ∷ [] = ap (λ (b : ℕ × List ℕ). b.1) (first_boundary lt) in
      record {
        reached = record {
          cut = [];
          before = [];
          goes_on = λ ts e t. subst (λ (b : ℕ × List ℕ). IsTiling d (drop b.0 new) b.1 ts e) (first_boundary lt) t;
          gives = λ ts e. ap (λ p. items d p ts e) (sym place);
          enters = λ ts. ap (λ (b : ℕ × List ℕ). boundaries d b.0 b.1 ts) (sym (first_boundary lt));
          kept = take_more bounds 0 no_boundary lt;
          entries = All-take (λ m. AreEntries m.entries) 1 bounds h.entries;
          asks = omega arith;
          few = omega arith;
          deep = omega (arith, ap length stack);
          some = omega (arith, ap length stack);
          initial = initial;
          states = subst (AreStates d) (sym stack) (one_state d 0 initial);
        };
        goes_on = λ ts e t. subst (λ (b : ℕ × List ℕ). IsTiling d (drop b.0 new) b.1 ts e) (first_boundary lt) t;
        boundary = subst (IsCharBoundary new) (sym place) (IsCharBoundary-start new is.utf8);
      }

  one_more : (n : ℕ) → n + 1 < length bounds → IsDecidedAt d old low (boundary_at bounds n) → Kept d new h.cut bounds n → Kept d new h.cut bounds (n + 1)
  unfolding tile
  one_more n lt decided kept =
      let m = boundary_at bounds n in
      let next = boundary_at bounds (n + 1) in
      let t = tile n in
      let taken = taken_new n lt decided kept.boundary in
      let len = Wins-le d (top (plain m.entries)) (drop m.place new) t.rule t.len taken.wins in
      let rest = length-drop m.place new in
      let place : m.place + t.len ≡ next.place = sym (ap (λ (b : ℕ × List ℕ). b.0) (next_boundary n lt)) in
      let stack : plain next.entries ≡ stack_past d (plain m.entries) t = ap (λ (b : ℕ × List ℕ). b.1) (next_boundary n lt) in
      let two = take_more bounds (n + 1) no_boundary lt in
      record {
        reached =
            subst (λ p. Reached d new p next.entries (lexemes d 0 (take (n + 1) h.cut)) (take (n + 1 + 1) bounds) 0) place
            (Reached-more d new m.place m.entries (lexemes d 0 (take n h.cut)) (take (n + 1) bounds) 0 kept.reached next.entries (lexemes d 0 (take (n + 1) h.cut)) (take (n + 1 + 1) bounds) 0 t
            (omega (arith, len, rest, taken.wins.some)) taken (omega arith) (h.entries (n + 1) no_boundary lt) stack
            (lexemes_more d 0 (0 ∷ []) h.cut n m.place (plain m.entries) (there n (omega arith)) (within_cut n lt))
            (two ∙ ap (λ p. take (n + 1) bounds ++ record { place = p; entries = next.entries } ∷ []) (sym place)));
        goes_on = λ ts e tail.
            let behind = subst (λ s. IsTiling d (drop next.place new) s ts e) stack tail in
            let from = subst (λ w. IsTiling d w (stack_past d (plain m.entries) t) ts e) (sym (drop-drop t.len m.place new ∙ ap (λ p. drop p new) place)) behind in
            subst (λ us. IsTiling d new (0 ∷ []) us e) (sym (append_assoc (take n h.cut) (t ∷ []) ts) ∙ ap (λ xs. xs ++ ts) (sym (take_more h.cut n no_tile (within_cut n lt))))
            (kept.goes_on (t ∷ ts) e (taken, from));
        boundary =
            subst (IsCharBoundary new) place
            (IsCharBoundary-from_rest new m.place t.len (omega (arith, len, rest, taken.wins.some)) (Wins-cut d (top (plain m.entries)) (drop m.place new) t.rule t.len taken.wins));
      }

  -- the first k tiles stay
  pub kept_up_to : (k n : ℕ) → k < length bounds → AreDecided d old bounds k low → n ≤ k → Kept d new h.cut bounds n
  kept_up_to k zero lt decided le = none_kept (omega arith)
  kept_up_to k (suc n) lt decided le =
      let next : n + 1 ≡ suc n = omega arith in
      let here : IsDecidedAt d old low (boundary_at bounds n) = subst (IsDecidedAt d old low) (get_or-take k bounds n no_boundary (omega arith)) (decided n no_boundary (omega (arith, length-take-le k bounds (omega arith)))) in
      subst (Kept d new h.cut bounds) next (one_more n (omega arith) here (kept_up_to k n lt decided (omega arith)))

  -- ---- what this says

  front_items : (k : ℕ) → k < length bounds → items_before (boundary_at bounds k).place found ≡ lexemes d 0 (take k h.cut)
  front_items k lt = part_before (boundary_at bounds k).place found _ _ (parted d old h.cut h.end found bounds k (boundary_at bounds k) (at_boundary k lt))

  pub goes_on_from : (k : ℕ) → k < length bounds → AreDecided d old bounds k low → GoesOn d new found bounds k
  goes_on_from k lt decided =
      let m = boundary_at bounds k in
      let kept = kept_up_to k k lt decided (omega arith) in
      record {
        reached = subst (λ xs. Reached d new m.place m.entries xs (take (k + 1) bounds) 0) (sym (front_items k lt)) kept.reached;
        boundary = kept.boundary;
      }

  pub begin_alike : (other_found : List Item) (other_bounds : List Boundary) (o : IsLexed d new other_found other_bounds) (k : ℕ) → k < length bounds → AreDecided d old bounds k low →
      BeginAlike h.cut o.cut found other_found bounds other_bounds k
  begin_alike other_found other_bounds o k lt decided =
      let m = boundary_at bounds k in
      let kept = kept_up_to k k lt decided (omega arith) in
      let r = kept.reached in
      let s = plain m.entries in
      let rest = a_tiling d (drop m.place new) s in
      let one = o.only (take k h.cut ++ rest.tiles) rest.end (kept.goes_on rest.tiles rest.end rest.is) in
      let two = o.only (r.cut ++ rest.tiles) rest.end (r.goes_on rest.tiles rest.end rest.is) in
      let front = lexemes d 0 (take k h.cut) in
      let before = (parted d old h.cut h.end found bounds k m (at_boundary k lt)).before in
      let from = tail_from d new m.place s rest.tiles rest.end 0 m.place s rest.is kept.boundary.0 (first_bound d m.place s rest.tiles) in
      record {
        tiles = ap (take k) (sym one.0) ∙ take_at (take k h.cut) rest.tiles k (length-take-le k h.cut (omega (arith, tiles_are d old found bounds h)));
        boundaries =
            sym (take-map place_and_stack (k + 1) other_bounds) ∙ ap (take (k + 1)) (o.boundaries_are ∙ ap (boundaries d 0 (0 ∷ [])) (sym two.0) ∙ r.enters rest.tiles)
            ∙ front_bounds d m.place s rest.tiles (map place_and_stack r.before) (k + 1)
            (omega (arith, length-map r.before place_and_stack, length_now d new m.place m.entries front (take (k + 1) bounds) 0 r, length-take-le (k + 1) bounds (omega arith)))
            ∙ sym (bounds_now d new m.place m.entries front (take (k + 1) bounds) 0 r);
        items =
            ap (items_before m.place) (o.items_are ∙ sym (ap₂ (items d 0) two.0 two.1) ∙ r.gives rest.tiles rest.end) ∙ front_before m.place front (items d m.place rest.tiles rest.end) before from
            ∙ sym (front_items k lt);
      }
