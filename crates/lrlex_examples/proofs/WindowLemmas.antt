-- What a window shows of a document, and what is shown of a whole run.
use Rattle.std.proofs.Common.{◌≡◌, ℕ, ◌+◌, ◌<◌, List, [], ◌∷◌, ◌++◌, length, map, take, get_or, sym, ap, ◌∙◌, arith, suc, slice_range, inl, inr}
use Rattle.std.specs.Borrow.{Bor}
use Rattle.std.specs.List.{concat}
use Rattle.std.proofs.lemmas.Bool.{cases_Bool}
use Rattle.std.proofs.lemmas.List.{map-append}
use Rattle.std.proofs.Math.Seq.{take-suc}
use Rattle.lrlex.specs.Boundaries.{Boundary, boundary_at}
use Rattle.lrlex.specs.Active.{is_state}
use Rattle.lrlex.specs.LexRun.{end_of}
use Rattle.lrlex.specs.Pieces.{ArePieces, ArePiecesIn, ArePiecesOfRun, joined}
use Rattle.lrlex.specs.Reach.{IsLexed, IsRun}
use Rattle.lrlex.specs.Tiling.{Item}
use Rattle.lrlex.specs.Words.{Definition}
use Rattle.lrlex.specs.declared.reading.pieces.Piece.{Piece}
use Rattle.lrlex_examples.specs.Lexing.{ShowPart, ShowPieces, joined_parts, shown}

pub shows_more : (words more : List (Bor (List ℕ) × Bor (List ℕ))) (name : Bor (List ℕ)) (pieces : List Piece) (k : ℕ) (p : Piece) → k < length pieces → p ≡ get_or pieces k p →
    ShowPieces (take k pieces) (map shown words) → more ≡ words ++ (name, p.text) ∷ [] → ShowPieces (take (k + 1) pieces) (map shown more)
shows_more words more name pieces k p lt at before new =
    let front : take (k + 1) pieces ≡ take k pieces ++ p ∷ [] = take_more pieces k p lt at in
    ap (λ ws. map (λ (w : List ℕ × List ℕ). w.1) (map shown ws)) new
    ∙ ap (map (λ (w : List ℕ × List ℕ). w.1)) (map-append shown words ((name, p.text) ∷ []))
    ∙ map-append (λ (w : List ℕ × List ℕ). w.1) (map shown words) (shown (name, p.text) ∷ [])
    ∙ ap (λ (xs : List (List ℕ)). xs ++ p.text.now ∷ []) before
    ∙ sym (map-append (λ (q : Piece). q.text.now) (take k pieces) (p ∷ []))
    ∙ ap (map (λ (q : Piece). q.text.now)) (sym front)
  where
    take_more : (xs : List Piece) (k : ℕ) (x : Piece) → k < length xs → x ≡ get_or xs k x → take (k + 1) xs ≡ take k xs ++ x ∷ []
    take_more xs k x lt at = let one : k + 1 ≡ suc k = omega arith in ap (λ n. take n xs) one ∙ take-suc xs k x lt ∙ ap (λ y. take k xs ++ y ∷ []) (sym at)

pub shows_part : (d : Definition) (text : List ℕ) (bounds : List Boundary) (from to : ℕ) (parts : List (List ℕ × List ℕ)) (pieces : List Piece) (are : ArePiecesIn d text bounds from to pieces) →
    joined pieces ≡ slice_range text (boundary_at bounds are.first).place (boundary_at bounds (are.first + length pieces)).place →
    ShowPieces pieces parts → ShowPart text bounds from to parts
shows_part d text bounds from to parts pieces are part shows = record {
  first = are.first;
  many = length pieces;
  text_is = ap concat shows ∙ part;
  exactly = are.exactly;
}

-- ---- a whole run
-- What `piece_laws` says of the pieces of a run.
abbrev pub SaysText : Type 0
SaysText = (d : Definition) (text : List ℕ) (found : List Item) (bounds : List Boundary) (h : IsLexed d text found bounds) (pieces : List Piece)
    → ArePieces d text bounds pieces → ArePiecesOfRun d text found bounds h pieces

pub shows_run : (d : Definition) (text : List ℕ) (found : List Item) (bounds : List Boundary) (parts : List (List ℕ × List ℕ)) (pieces : List Piece) → SaysText → IsRun d text found bounds →
    ArePieces d text bounds pieces → ShowPieces pieces parts → joined_parts parts ≡ take (end_of bounds) text
shows_run d text found bounds parts pieces says run are shows =
    ap concat shows ∙ elim (cases_Bool (is_state d 0)) [
      | inl is ↦ (says d text found bounds (run.lexed is) pieces are).text_is
      | inr lacks ↦ ap joined (are.stateless lacks) ∙ sym (ap (λ (b : List Boundary). take (end_of b) text) (run.stateless lacks).boundaries_are)
    ]
