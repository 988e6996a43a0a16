-- What callers say of a text that is lexed.
use Rattle.std.specs.Prelude.{◌≡◌, ◌↔◌, ℕ, ◌+◌, ◌<◌, ◌≤◌, List, [], ◌∷◌, Option, Some, None, length, map, slice_range, unwrap_or}
use Rattle.std.specs.Borrow.{Bor}
use Rattle.std.specs.List.{concat, filter_map}
use Rattle.lrlex.specs.Words.{Definition, Rule, Edit, Fits, as_span, edited}
use Rattle.lrlex.specs.Ids.{name_of}
use Rattle.lrlex.specs.Tiling.{Item, Lexeme, Error}
use Rattle.lrlex.specs.Boundaries.{Boundary, boundary_at}
use Rattle.lrlex.specs.Pieces.{HasByteIn}
use Rattle.lrlex.specs.Reach.{IsRun}
use Rattle.lrlex.specs.declared.reading.pieces.Piece.{Piece}

-- a lexeme's name and its text; an error has none
abbrev pub word_of : List Rule → List ℕ → Item → Option (List ℕ × List ℕ)
word_of rules text (Lexeme id start len faulty) = Some (unwrap_or (name_of rules id) [], slice_range text start (start + len))
word_of rules text (Error start end state) = None

-- the names and the texts of the lexemes that the definition gives for the text, in order
pub record AreWords (d : Definition) (text : List ℕ) (words : List (List ℕ × List ℕ)) : Type 0 where
  pub found : List Item
  pub bounds : List Boundary
  pub run : IsRun d text found bounds
  pub are : words ≡ filter_map (word_of d.rules text) found

-- a name and a text of the program
abbrev pub shown : Bor (List ℕ) × Bor (List ℕ) → List ℕ × List ℕ
shown word = (word.0.now, word.1.now)

-- each edit fits the text before it, and makes the text that comes with it
abbrev pub AreSteps : List ℕ → List (Edit × Bor (List ℕ)) → Type 0
AreSteps text [] = Unit {0}
AreSteps text (step ∷ steps) =
    Fits text step.0.removed × (step.1.now ≡ edited text (as_span step.0.removed) step.0.put.now) × AreSteps step.1.now steps

-- the text after all of these edits, the first of them first
abbrev pub text_after : List ℕ → List Edit → List ℕ
text_after text [] = text
text_after text (e ∷ es) = text_after (edited text (as_span e.removed) e.put.now) es

-- the texts of these parts, one behind the other
abbrev pub joined_parts : List (List ℕ × List ℕ) → List ℕ
joined_parts parts = concat (map (λ (part : List ℕ × List ℕ). part.1) parts)

-- these parts have the texts of these pieces
abbrev pub ShowPieces : List Piece → List (List ℕ × List ℕ) → Type 0
ShowPieces pieces parts = map (λ (part : List ℕ × List ℕ). part.1) parts ≡ map (λ (p : Piece). p.text.now) pieces

-- Joined, these parts are the text between two boundaries of a run: those before and behind the tiles that have a byte in from..to.
pub record ShowPart (text : List ℕ) (bounds : List Boundary) (from to : ℕ) (parts : List (List ℕ × List ℕ)) : Type 0 where
  pub first : ℕ
  pub many : ℕ
  pub text_is : joined_parts parts ≡ slice_range text (boundary_at bounds first).place (boundary_at bounds (first + many)).place
  pub exactly : (k : ℕ) → k + 1 < length bounds →
      HasByteIn from to (boundary_at bounds k).place (boundary_at bounds (k + 1)).place ↔ ((first ≤ k) × (k < first + many))
