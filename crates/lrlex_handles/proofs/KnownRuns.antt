-- What calls on a document return, by the run that the document holds.
use Rattle.std.proofs.Common.{◌≡◌, ℕ, List, length, Result, IfOk, subst}
use Rattle.lrlex_boundaries.specs.Boundaries.{Boundary}
use Rattle.lrlex_rules.specs.Definition.{Definition}
use Rattle.lrlex.specs.Pieces.{ArePieces, ArePiecesIn}
use Rattle.lrlex.specs.Reach.{IsRun}
use Rattle.lrlex.specs.Tiling.{Item}
use Rattle.lrlex.specs.declared.reading.pieces.Piece as cut
use Rattle.lrlex_handles.specs.Answers.{lexed_by, ArePiecesOf, ArePartOf}
use Rattle.lrlex_handles.specs.Buffers.{filled, piece_by}
use Rattle.lrlex_handles.specs.declared.structs.Lexed.{Lexed}
use Rattle.lrlex_handles.specs.declared.structs.Piece.{Piece}
use Rattle.lrlex_handles.proofs.Fills.{with_count, if_ok}

abbrev pub AreCut : (List cut.Piece → Type 0) → List Item → List Boundary → (room pieces : List Piece) → Lexed → Type 0
AreCut P found bounds room pieces lexed =
    (cuts : List cut.Piece) × P cuts × (pieces ≡ filled (λ (p : cut.Piece) (t : Piece). piece_by p) cuts room) × (lexed ≡ with_count (length cuts) (lexed_by found bounds))

pub pieces_known : {E : Type 0} (d e : Definition) (t u : List ℕ) (found : List Item) (bounds : List Boundary) (room pieces : List Piece) (r : Result Lexed E)
    → d ≡ e → t ≡ u → IsRun d t found bounds → IfOk r (AreCut (ArePieces d t bounds) found bounds room pieces) → IfOk r (ArePiecesOf e u room pieces)
pieces_known d e t u found bounds room pieces r p q run h =
    subst (λ y. IfOk r (ArePiecesOf e y room pieces)) q (subst (λ x. IfOk r (ArePiecesOf x t room pieces)) p
    (if_ok (AreCut (ArePieces d t bounds) found bounds room pieces) (ArePiecesOf d t room pieces) r
    (λ l s. record { found = found; bounds = bounds; run = run; cuts = s.0; cuts-are = s.1; pieces-are = s.2; lexed-is = s.3 }) h))

pub part_known : {E : Type 0} (d e : Definition) (t u : List ℕ) (found : List Item) (bounds : List Boundary) (from to : ℕ) (room pieces : List Piece) (r : Result Lexed E)
    → d ≡ e → t ≡ u → IsRun d t found bounds → IfOk r (AreCut (ArePiecesIn d t bounds from to) found bounds room pieces) → IfOk r (ArePartOf e u from to room pieces)
part_known d e t u found bounds from to room pieces r p q run h =
    subst (λ y. IfOk r (ArePartOf e y from to room pieces)) q (subst (λ x. IfOk r (ArePartOf x t from to room pieces)) p
    (if_ok (AreCut (ArePiecesIn d t bounds from to) found bounds room pieces) (ArePartOf d t from to room pieces) r
    (λ l s. record { found = found; bounds = bounds; run = run; cuts = s.0; cuts-are = s.1; pieces-are = s.2; lexed-is = s.3 }) h))
