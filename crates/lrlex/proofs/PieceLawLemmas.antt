-- The pieces of a run, joined.
use Rattle.std.proofs.Common.{◌≡◌, ℕ, zero, suc, ◌+◌, ◌-◌, ◌<◌, ◌≤◌, List, [], ◌∷◌, ◌++◌, length, take, drop, Some, slice_get, get_or, refl, sym, ap, ap₂, ◌∙◌, subst, inl, inr, arith, append_assoc, slice_range}
use Rattle.std.proofs.Math.Seq.{take-add}
use Rattle.std.proofs.lemmas.Bool.{cases_Bool}
use Rattle.std.proofs.lemmas.List.{drop-drop, get_or-map, take_all}
use Rattle.std.proofs.lemmas.List.Sums.{sum_by-cons, sum_by_more}
use Rattle.std.proofs.lemmas.Option.{slice_get_within, slice_get-get_or}
use Rattle.lrlex_base.specs.Spans.{Span, span_start, span_end}
use Rattle.lrlex_rules.specs.Definition.{Definition}
use Rattle.lrlex_boundaries.specs.Boundaries.{Boundary, place_and_stack, no_boundary, boundary_at}
use Rattle.lrlex_rules.specs.Active.{is_state, rule_at, lexeme_id}
use Rattle.lrlex.specs.ItemLaws.{total_len}
use Rattle.lrlex.specs.LexRun.{end_of}
use Rattle.lrlex.specs.Pieces.{IsPiece, AreTiles, AreTilesOfRun, ArePieces, ArePiecesOfRun, joined, lexemes_of}
use Rattle.lrlex.specs.Reach.{IsLexed, IsRun}
use Rattle.lrlex_rules.specs.Tiling.{Item, Tile, End, stack_past, lexeme_of, tile_items, end_items, items, boundaries}
use Rattle.lrlex.specs.declared.reading.pieces.Piece.{Piece}
use Rattle.lrlex.proofs.PeakLemmas.{tiles_are}

no_tile : Tile
no_tile = record { rule = 0; len = 0 }

-- where each boundary is
places : (d : Definition) (place : ℕ) (stack : List ℕ) (ts : List Tile) (k : ℕ) (b : ℕ × List ℕ) → k ≤ length ts → (get_or (boundaries d place stack ts) k b).0 ≡ place + total_len (take k ts)
places d place stack [] zero b le = omega arith
places d place stack [] (suc k) b le = absurd (omega (arith, le))
places d place stack (t ∷ ts) zero b le = omega arith
places d place stack (t ∷ ts) (suc k) b le = omega (arith, places d (place + t.len) (stack_past d stack t) ts k b (omega (arith, le)), sum_by-cons (λ (t : Tile). t.len) t (take k ts))

module _ (d : Definition) (text : List ℕ) where
  -- the pieces are these tiles, one behind the other from the place on
  abbrev AreFrom : ℕ → List Tile → List Piece → Type 0
  AreFrom place [] [] = Unit {0}
  AreFrom place [] (p ∷ ps) = ⊥
  AreFrom place (t ∷ ts) [] = ⊥
  AreFrom place (t ∷ ts) (p ∷ ps) = IsPiece d text place t p × AreFrom (place + t.len) ts ps

  from_each : (place : ℕ) (ts : List Tile) (ps : List Piece) → length ps ≡ length ts →
      ((k : ℕ) (t : Tile) (p : Piece) → slice_get ts k ≡ Some t → slice_get ps k ≡ Some p → IsPiece d text (place + total_len (take k ts)) t p) → AreFrom place ts ps
  from_each place [] [] many each = tt
  from_each place [] (p ∷ ps) many each = absurd (omega (arith, many))
  from_each place (t ∷ ts) [] many each = absurd (omega (arith, many))
  from_each place (t ∷ ts) (p ∷ ps) many each = (
    subst (λ n. IsPiece d text n t p) (omega arith) (each 0 t p refl refl),
    from_each (place + t.len) ts ps (omega (arith, many))
        (λ k u q at here. subst (λ n. IsPiece d text n u q) (omega (arith, sum_by-cons (λ (t : Tile). t.len) t (take k ts))) (each (suc k) u q at here)),
  )

  lexemes_from : (place : ℕ) (ts : List Tile) (ps : List Piece) (e : End) → AreFrom place ts ps → items d place ts e ≡ lexemes_of d ps ++ end_items d (place + total_len ts) e
  lexemes_from place [] (p ∷ ps) e are = absurd are
  lexemes_from place (t ∷ ts) [] e are = absurd are
  lexemes_from place [] [] e are = ap (λ n. end_items d n e) (omega arith)
  lexemes_from place (t ∷ ts) (p ∷ ps) e are =
      let own : tile_items d place t ≡ lexeme_of (lexeme_id (rule_at d p.rule)) (span_start p.span) (span_end p.span - span_start p.span) =
      ap₂ (λ k (s : ℕ × ℕ). lexeme_of (lexeme_id (rule_at d k)) s.0 s.1) (sym are.0.rule) (ap₂ (λ a b. (a, b)) (sym (ap (λ (s : Span). s.start) are.0.span)) (omega (arith, ap (λ (s : Span). s.start) are.0.span, ap (λ (s : Span). s.end) are.0.span))) in
      ap₂ (λ (xs ys : List Item). xs ++ ys) own (lexemes_from (place + t.len) ts ps e are.1 ∙ ap (λ n. lexemes_of d ps ++ end_items d n e) (omega (arith, sum_by-cons (λ (t : Tile). t.len) t ts)))
      ∙ sym (append_assoc (lexeme_of (lexeme_id (rule_at d p.rule)) (span_start p.span) (span_end p.span - span_start p.span)) (lexemes_of d ps) (end_items d (place + total_len (t ∷ ts)) e))

module _ (d : Definition) (text : List ℕ) (found : List Item) (bounds : List Boundary) (h : IsLexed d text found bounds) where
  place_at : (k : ℕ) → k ≤ length h.cut → (boundary_at bounds k).place ≡ total_len (take k h.cut)
  place_at k le =
      ap (λ (b : ℕ × List ℕ). b.0) (sym (get_or-map place_and_stack bounds k no_boundary (place_and_stack no_boundary) (omega (arith, tiles_are d text found bounds h))))
      ∙ ap (λ bs. (get_or bs k (place_and_stack no_boundary)).0) h.boundaries_are ∙ places d 0 (0 ∷ []) h.cut k (place_and_stack no_boundary) le ∙ omega arith

  abbrev P : ℕ → ℕ
  P k = (boundary_at bounds k).place

  next_place : (k : ℕ) → k < length h.cut → P (k + 1) ≡ P k + (get_or h.cut k no_tile).len
  next_place k lt = omega (arith, place_at (k + 1) (omega (arith, lt)), place_at k (omega (arith, lt)), sum_by_more (λ (t : Tile). t.len) h.cut k no_tile lt)

  -- so many bytes, from the first boundary's place to the last one's
  record IsPart (first : ℕ) (ps : List Piece) : Type 0 where
    many : ℕ
    ends : P first + many ≡ P (first + length ps)
    text_is : joined ps ≡ take many (drop (P first) text)

  AreRow : ℕ → List Piece → Type 0
  AreRow first ps = (k : ℕ) (t : Tile) (p : Piece) → slice_get h.cut (first + k) ≡ Some t → slice_get ps k ≡ Some p → IsPiece d text (P (first + k)) t p

  row_behind : (first : ℕ) (p : Piece) (ps : List Piece) → AreRow first (p ∷ ps) → AreRow (first + 1) ps
  unfolding AreRow
  row_behind first p ps each k t q at here =
      let e : first + suc k ≡ first + 1 + k = omega arith in
      subst (λ n. IsPiece d text (P n) t q) e (each (suc k) t q (ap (slice_get h.cut) e ∙ at) here)

  row_part : (first : ℕ) (ps : List Piece) → first + length ps ≤ length h.cut → AreRow first ps → IsPart first ps
  unfolding AreRow
  row_part first [] le each = record { many = 0; ends = let z : first ≡ first + 0 = omega arith in omega (arith, ap P z); text_is = refl }
  row_part first (p ∷ ps) le each =
      let t = get_or h.cut first no_tile in
      let lt : first < length h.cut = omega (arith, le) in
      let z : first + 0 ≡ first = omega arith in
      let one : IsPiece d text (P first) t p = subst (λ n. IsPiece d text (P n) t p) z (each 0 t p (ap (slice_get h.cut) z ∙ slice_get-get_or h.cut first no_tile lt) refl) in
      let rest = row_part (first + 1) ps (omega (arith, le)) (row_behind first p ps each) in
      let next = next_place first lt in
      let own : p.text.now ≡ take t.len (drop (P first) text) = one.text_is ∙ ap (λ n. take n (drop (P first) text)) (omega arith) in
      let behind : drop (P (first + 1)) text ≡ drop t.len (drop (P first) text) = ap (λ n. drop n text) next ∙ sym (drop-drop t.len (P first) text) in
      let to : first + 1 + length ps ≡ first + suc (length ps) = omega arith in
      record {
        many = t.len + rest.many;
        ends = omega (arith, next, rest.ends, ap P to);
        text_is = ap₂ (λ (xs ys : List ℕ). xs ++ ys) own (rest.text_is ∙ ap (take rest.many) behind) ∙ sym (take-add t.len rest.many (drop (P first) text));
      }

  part_of_lexed : (first : ℕ) (ps : List Piece) → AreTilesOfRun d text bounds first ps → joined ps ≡ slice_range text (P first) (P (first + length ps))
  unfolding AreRow
  part_of_lexed first ps are =
      let part = row_part first ps (omega (arith, are.within, tiles_are d text found bounds h)) (λ k t p at here. are.each found h k t p at here) in
      part.text_is ∙ ap (λ n. take n (drop (P first) text)) (omega (arith, part.ends))

  end_place : end_of bounds ≡ total_len h.cut
  end_place =
      let last : length bounds - 1 ≡ length h.cut = omega (arith, tiles_are d text found bounds h) in
      ap (λ k. (boundary_at bounds k).place) last ∙ place_at (length h.cut) (omega arith) ∙ ap total_len (take_all (length h.cut) h.cut (omega arith))

  are_from : (ps : List Piece) → AreTiles d text bounds h.cut ps → AreFrom d text 0 h.cut ps
  are_from ps are = from_each d text 0 h.cut ps are.many
      (λ k t p at here. subst (λ n. IsPiece d text n t p) (place_at k (within k t at) ∙ omega arith) (are.each k t p at here))
    where
      within : (k : ℕ) (t : Tile) → slice_get h.cut k ≡ Some t → k ≤ length h.cut
      within k t at = omega (arith, slice_get_within h.cut k t at)

  first_at : P 0 ≡ 0
  first_at = place_at 0 (omega arith) ∙ omega arith

  row_of_all : (ps : List Piece) → AreTiles d text bounds h.cut ps → AreRow 0 ps
  unfolding AreRow
  row_of_all ps are k t p at here =
      let z : 0 + k ≡ k = omega arith in
      subst (λ n. IsPiece d text (P n) t p) (sym z) (are.each k t p (sym (ap (slice_get h.cut) z) ∙ at) here)

  pub pieces_of_run : (ps : List Piece) → ArePieces d text bounds ps → ArePiecesOfRun d text found bounds h ps
  pieces_of_run ps pieces =
      let from = are_from ps (pieces.tiles found h) in
      record {
        text_is =
            let whole = row_part 0 ps (omega (arith, (pieces.tiles found h).many)) (row_of_all ps (pieces.tiles found h)) in
            let all : 0 + length ps ≡ length bounds - 1 = omega (arith, (pieces.tiles found h).many, tiles_are d text found bounds h) in
            whole.text_is ∙ ap (λ n. take whole.many (drop n text)) first_at ∙ ap (λ n. take n text) (omega (arith, whole.ends, first_at, ap P all));
        items_are = h.items_are ∙ lexemes_from d text 0 h.cut ps h.end from ∙ ap (λ n. lexemes_of d ps ++ end_items d n h.end) (omega (arith, end_place));
      }

module _ (d : Definition) (text : List ℕ) (found : List Item) (bounds : List Boundary) (first : ℕ) (ps : List Piece) (are : AreTilesOfRun d text bounds first ps) where
  abbrev FromPlace : List Piece → Type 0
  FromPlace qs = joined qs ≡ slice_range text (boundary_at bounds first).place (boundary_at bounds (first + length qs)).place

  none_of_none : (qs : List Piece) → length qs ≡ 0 → FromPlace qs
  none_of_none [] e =
      let z : first + 0 ≡ first = omega arith in
      let same : (boundary_at bounds (first + 0)).place ≡ (boundary_at bounds first).place = ap (λ k. (boundary_at bounds k).place) z in
      let none : (boundary_at bounds (first + 0)).place - (boundary_at bounds first).place ≡ 0 = omega (arith, same) in
      sym (ap (λ n. take n (drop (boundary_at bounds first).place text)) none)
  none_of_none (q ∷ qs) e = absurd (omega (arith, e))

  pub pieces_of_part : IsRun d text found bounds → FromPlace ps
  pieces_of_part run = elim (cases_Bool (is_state d 0)) [
    | inl is ↦ part_of_lexed d text found bounds (run.lexed is) first ps are
    | inr lacks ↦ none_of_none ps (omega (arith, are.within, ap length (run.stateless lacks).boundaries_are))
  ]
