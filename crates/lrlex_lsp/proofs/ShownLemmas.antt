-- Pieces in a row, one after the other.
use Rattle.std.proofs.Common.{◌≡◌, inl, inr, ℕ, zero, suc, ◌+◌, ◌-◌, ◌^◌, ◌<◌, ◌≤◌, List, [], ◌∷◌, ◌++◌, length, map, take, drop, get_or, slice_range, Option, refl, sym, ◌∙◌, ap, ap₂, subst, arith, append_assoc, length-append, take_all}
use Rattle.std.specs.List.{All, slice_get}
use Rattle.std.specs.Str.{IsCharBoundary, IsUtf8}
use Rattle.std.proofs.lemmas.Bool.{cases_Bool}
use Rattle.std.proofs.lemmas.List.{append-nil, take-append-drop, take_more, drop-drop, map-append}
use Rattle.std.proofs.lemmas.List.Elements.{All-append}
use Rattle.std.proofs.lemmas.Option.{slice_get-get_or}
use Rattle.std.proofs.lemmas.Str.{IsCharBoundary-start}
use Rattle.std.proofs.Math.Seq.{drop-append_seam, drop-cons}
use Rattle.lrlex.specs.Active.{is_state}
use Rattle.lrlex.specs.Boundaries.{Boundary, boundary_at}
use Rattle.lrlex.specs.Pieces.{ArePiecesIn, IsPiece, joined}
use Rattle.lrlex.specs.Reach.{IsRun}
use Rattle.lrlex.specs.Tiling.{Item, Tile}
use Rattle.lrlex.specs.Words.{Definition}
use Rattle.lrlex.specs.declared.reading.pieces.Piece.{Piece}
use Rattle.lrlex.proofs.PeakLemmas.{tiles_are}
use Rattle.lrlex.proofs.PieceLemmas.{between_characters}
use Rattle.lrlex_base.specs.Spans.{Span, span_start}
use Rattle.lrlex_positions.specs.declared.encoding.PositionEncoding.{PositionEncoding}
use Rattle.lrlex_lsp.specs.Rows.{GoesTo, IsRowAt}
use Rattle.lrlex_lsp.specs.Shown.{AreInRow, IsShownAs, TellPieces, begin_of, shown_tokens}
use Rattle.lrlex_lsp.specs.Tokens.{numbers_of, piece_tokens, tokens_read}
use Rattle.lrlex_lsp.specs.declared.languages.Language.{Language}
use Rattle.lrlex_lsp.specs.declared.tokens.Row.{Row}
use Rattle.lrlex_lsp.proofs.ReadLemmas.{read_told}
use Rattle.lrlex_lsp.proofs.ToldLemmas.{goes_on, stays}

-- ---- the pieces of a part of a run

no_tile : Tile
no_tile = record { rule = 0; len = 0 }

pub in_row : (d : Definition) (text : List ℕ) (found : List Item) (bounds : List Boundary) (from to : ℕ) (pieces : List Piece) → IsUtf8 text → All (λ b. b < 256) text → length text < 2 ^ 64
    → IsRun d text found bounds → (are : ArePiecesIn d text bounds from to pieces)
    → joined pieces ≡ slice_range text (boundary_at bounds are.first).place (boundary_at bounds (are.first + length pieces)).place → AreInRow text pieces
in_row d text found bounds from to [] utf8 bytes small run are is = record { utf8 = utf8; small = small; rest = text; text_is = refl; begins = IsCharBoundary-start text utf8 }
in_row d text found bounds from to (p ∷ ps) utf8 bytes small run are is =
    elim (cases_Bool (is_state d 0)) [
      | inr none ↦ absurd (omega (arith, are.tiles.within, ap length (run.stateless none).boundaries_are))
      | inl initial ↦
          let h = run.lexed initial in
          let first = are.first in
          let many = tiles_are d text found bounds h in
          let lt : first < length h.cut = omega (arith, are.tiles.within, many) in
          let z : first + 0 ≡ first = omega arith in
          let one : IsPiece d text (boundary_at bounds first).place (get_or h.cut first no_tile) p =
          subst (λ n. IsPiece d text (boundary_at bounds n).place (get_or h.cut first no_tile) p) z (are.tiles.each found h 0 (get_or h.cut first no_tile) p (ap (slice_get h.cut) z ∙ slice_get-get_or h.cut first no_tile lt) refl) in
          let start : span_start p.span ≡ (boundary_at bounds first).place = ap (λ (s : Span). s.start) one.span in
          let i = (boundary_at bounds first).place in
          let n = (boundary_at bounds (first + length (p ∷ ps))).place - i in
          record {
            utf8 = utf8;
            small = small;
            rest = drop n (drop i text);
            text_is = ap (λ k. drop k text) start ∙ sym (take-append-drop n (drop i text)) ∙ ap (λ xs. xs ++ drop n (drop i text)) (sym is);
            begins = subst (IsCharBoundary text) (sym start) (between_characters d text found bounds h (record { bytes = bytes; utf8 = utf8 }) initial first (omega (arith, lt, many)));
          }
    ]

-- ---- joined texts

joined-append : (xs ys : List Piece) → joined (xs ++ ys) ≡ joined xs ++ joined ys
joined-append [] ys = refl
joined-append (p ∷ xs) ys = ap (λ t. p.text.now ++ t) (joined-append xs ys) ∙ sym (append_assoc p.text.now (joined xs) (joined ys))

joined_one : (p : Piece) → joined (p ∷ []) ≡ p.text.now
joined_one p = append-nil p.text.now

-- the piece behind the first n
pub piece_there : (text : List ℕ) (pieces : List Piece) (n : ℕ) (p : Piece) (row : AreInRow text pieces) → n < length pieces → p ≡ get_or pieces n p
    → drop (begin_of pieces + length (joined (take n pieces))) text ≡ p.text.now ++ (joined (drop (n + 1) pieces) ++ row.rest)
piece_there text pieces n p row h is =
    let front = joined (take n pieces) in
    let up : suc n ≡ n + 1 = omega arith in
    let cons : drop n pieces ≡ p ∷ drop (n + 1) pieces = drop-cons pieces n p h ∙ ap₂ (λ (q : Piece) (k : ℕ). q ∷ drop k pieces) (sym is) up in
    let whole : joined pieces ≡ front ++ (p.text.now ++ joined (drop (n + 1) pieces)) =
    ap joined (sym (take-append-drop n pieces)) ∙ joined-append (take n pieces) (drop n pieces) ∙ ap (λ ps. front ++ joined ps) cons in
    sym (drop-drop (length front) (begin_of pieces) text) ∙ ap (drop (length front)) (row.text_is ∙ ap (λ t. t ++ row.rest) whole ∙ append_assoc front (p.text.now ++ joined (drop (n + 1) pieces)) row.rest)
    ∙ drop-append_seam front ((p.text.now ++ joined (drop (n + 1) pieces)) ++ row.rest) ∙ append_assoc p.text.now (joined (drop (n + 1) pieces)) row.rest

-- ---- what they are shown as

abbrev pieces_of : List (Piece × Option ℕ) → List Piece
pieces_of shown = map (λ (s : Piece × Option ℕ). s.0) shown

tokens_more : (encoding : PositionEncoding) (text : List ℕ) (at : ℕ) (shown : List (Piece × Option ℕ)) (p : Piece) (kind : Option ℕ)
    → shown_tokens encoding text at (shown ++ ((p, kind) ∷ [])) ≡ shown_tokens encoding text at shown ++ piece_tokens encoding text kind (at + length (joined (pieces_of shown))) p.text.now
tokens_more encoding text at [] p kind =
    append-nil (piece_tokens encoding text kind at p.text.now) ∙ (let n : at ≡ at + 0 = omega arith in ap (λ k. piece_tokens encoding text kind k p.text.now) n)
tokens_more encoding text at (s ∷ shown) p kind =
    let here = piece_tokens encoding text s.1 at s.0.text.now in
    let next = at + length s.0.text.now in
    let n : next + length (joined (pieces_of shown)) ≡ at + length (s.0.text.now ++ joined (pieces_of shown)) = omega (arith, length-append s.0.text.now (joined (pieces_of shown))) in
    ap (λ ts. here ++ ts) (tokens_more encoding text next shown p kind)
    ∙ sym (append_assoc here (shown_tokens encoding text next shown) (piece_tokens encoding text kind (next + length (joined (pieces_of shown))) p.text.now))
    ∙ ap (λ k. (here ++ shown_tokens encoding text next shown) ++ piece_tokens encoding text kind k p.text.now) n

-- the first n pieces are told
pub record IsShown (language : Language) (text : List ℕ) (pieces : List Piece) (n : ℕ) (old new : Row) : Type 0 where
  pub shown : List (Piece × Option ℕ)
  pub pieces_are : pieces_of shown ≡ take n pieces
  pub kinds : All (λ (s : Piece × Option ℕ). IsShownAs language s.0 s.1) shown
  pub goes : GoesTo text (begin_of pieces + length (joined (take n pieces))) (shown_tokens old.encoding text (begin_of pieces) shown) old new

pub shown_starts : (language : Language) (text : List ℕ) (pieces : List Piece) (row : Row) → IsRowAt text (begin_of pieces) row → IsShown language text pieces 0 row row
shown_starts language text pieces row here =
    let none : take 0 pieces ≡ [] = take_none pieces in
    let n : begin_of pieces ≡ begin_of pieces + length (joined (take 0 pieces)) = omega (arith, ap (λ ps. length (joined ps)) none) in
    record {
      shown = [];
      pieces_are = sym none;
      kinds = λ k d l. absurd (omega (arith, l));
      goes = stays text (begin_of pieces + length (joined (take 0 pieces))) row (subst (λ k. IsRowAt text k row) n here);
    }
  where
    take_none : (ps : List Piece) → take 0 ps ≡ []
    take_none [] = refl
    take_none (p ∷ ps) = refl

one_kind : (P : Piece × Option ℕ → Type 0) (s : Piece × Option ℕ) → P s → All P (s ∷ [])
one_kind P s h zero d l = h
one_kind P s h (suc k) d l = absurd (omega (arith, l))

pub shown_more : (language : Language) (text : List ℕ) (pieces : List Piece) (n : ℕ) (p : Piece) (kind : Option ℕ) (old row new : Row) → IsShown language text pieces n old row → n < length pieces → p ≡ get_or pieces n p
    → IsShownAs language p kind
    → GoesTo text (begin_of pieces + length (joined (take n pieces)) + length p.text.now) (piece_tokens row.encoding text kind (begin_of pieces + length (joined (take n pieces))) p.text.now) row new
    → IsShown language text pieces (n + 1) old new
shown_more language text pieces n p kind old row new known h is said one =
    let b = begin_of pieces in
    let at = b + length (joined (take n pieces)) in
    let more : take (n + 1) pieces ≡ take n pieces ++ (p ∷ []) = take_more pieces n p h ∙ ap (λ (q : Piece). take n pieces ++ (q ∷ [])) (sym is) in
    let text_more : joined (take (n + 1) pieces) ≡ joined (take n pieces) ++ p.text.now = ap joined more ∙ joined-append (take n pieces) (p ∷ []) ∙ ap (λ t. joined (take n pieces) ++ t) (joined_one p) in
    let end : at + length p.text.now ≡ b + length (joined (take (n + 1) pieces)) = omega (arith, ap length text_more, length-append (joined (take n pieces)) p.text.now) in
    let tokens : shown_tokens old.encoding text b (known.shown ++ ((p, kind) ∷ [])) ≡ shown_tokens old.encoding text b known.shown ++ piece_tokens row.encoding text kind at p.text.now =
    tokens_more old.encoding text b known.shown p kind
    ∙ ap₂ (λ (ps : List Piece) (e : PositionEncoding). shown_tokens old.encoding text b known.shown ++ piece_tokens e text kind (b + length (joined ps)) p.text.now) known.pieces_are (sym known.goes.encoding) in
    record {
      shown = known.shown ++ ((p, kind) ∷ []);
      pieces_are = map-append (λ (s : Piece × Option ℕ). s.0) known.shown ((p, kind) ∷ []) ∙ ap (λ ps. ps ++ (p ∷ [])) known.pieces_are ∙ sym more;
      kinds = All-append (λ (s : Piece × Option ℕ). IsShownAs language s.0 s.1) known.shown ((p, kind) ∷ []) known.kinds (one_kind (λ (s : Piece × Option ℕ). IsShownAs language s.0 s.1) (p, kind) said);
      goes = subst (λ ts. GoesTo text (b + length (joined (take (n + 1) pieces))) ts old new) (sym tokens)
          (subst (λ k. GoesTo text k (shown_tokens old.encoding text b known.shown ++ piece_tokens row.encoding text kind at p.text.now) old new) end
          (goes_on text at (at + length p.text.now) (shown_tokens old.encoding text b known.shown) (piece_tokens row.encoding text kind at p.text.now) old row new known.goes one));
    }

-- all are told
pub tells : (language : Language) (text : List ℕ) (pieces : List Piece) (n : ℕ) (old new : Row) → IsShown language text pieces n old new → length pieces ≤ n → old.tokens.numbers.items ≡ []
    → TellPieces language old.encoding text pieces old.last new.tokens.numbers.items
tells language text pieces n old new known all none =
    let tokens = shown_tokens old.encoding text (begin_of pieces) known.shown in
    let numbers : new.tokens.numbers.items ≡ numbers_of old.last tokens = known.goes.told.numbers ∙ ap (λ ns. ns ++ numbers_of old.last tokens) none in
    record {
      shown = known.shown;
      pieces_are = known.pieces_are ∙ take_all n pieces all;
      kinds = known.kinds;
      numbers_are = numbers;
      read = λ readable. ap (tokens_read old.last) numbers ∙ read_told old.last tokens readable;
    }
