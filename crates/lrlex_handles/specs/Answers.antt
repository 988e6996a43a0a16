-- What calls return of a lexed text.
use Rattle.std.specs.Prelude.{◌≡◌, ℕ, ◌-◌, List, length, drop, slice_get, unwrap_or, true, false}
use Rattle.std.specs.declared.option.Option.{Option}
use Rattle.std.specs.declared.option.Option.TheVariants.{None, Some}
use Rattle.lrlex_base.specs.Edits.{edited}
use Rattle.lrlex_base.specs.Spans.{span, span_start, span_end}
use Rattle.lrlex_boundaries.specs.Boundaries.{Boundary}
use Rattle.lrlex_rules.specs.Definition.{Definition}
use Rattle.lrlex_rules.specs.declared.states.StartState as start
use Rattle.lrlex_report.specs.StopTexts.{stop_text, name_in, error_state}
use Rattle.lrlex.specs.Errors.{lex_error_span}
use Rattle.lrlex.specs.LexRun.{end_of, end_state_of}
use Rattle.lrlex.specs.Pieces.{ArePieces, ArePiecesIn}
use Rattle.lrlex.specs.Reach.{IsRun}
use Rattle.lrlex.specs.Tiling.{Item, Lexeme, Error}
use Rattle.lrlex_rules.specs.declared.errors.LRLexError.{LRLexError}
use Rattle.lrlex.specs.declared.reading.pieces.Piece as cut
use Rattle.lrlex_handles.specs.Buffers.{filled, put_token, piece_by}
use Rattle.lrlex_handles.specs.declared.structs.Lexed.{Lexed}
use Rattle.lrlex_handles.specs.declared.structs.Piece.{Piece}
use Rattle.lrlex_handles.specs.declared.structs.Token.{Token}

-- how lexing went, by the last of n items, the offset at which it ended, and the start state there; only the last can be an error
abbrev pub outcome : Option Item → (n end state : ℕ) → Lexed
outcome None n end q = record { count = n; end = end; state = q; stopped = false; unmatched = false }
outcome (Some (Lexeme id start len faulty)) n end q = record { count = n; end = end; state = q; stopped = false; unmatched = false }
outcome (Some (Error from to None)) n end q = record { count = n - 1; end = end; state = q; stopped = true; unmatched = false }
outcome (Some (Error from to (Some p))) n end q = record { count = n - 1; end = end; state = q; stopped = true; unmatched = true }

abbrev pub lexed_by : List Item → List Boundary → Lexed
lexed_by found bounds = outcome (slice_get found (length found - 1)) (length found) (end_of bounds) (unwrap_or (end_state_of bounds) 0)

-- the tokens are those of the one run of the definition on the text, from an index on, as many as there is room for
pub record AreTokensOf (d : Definition) (text : List ℕ) (first : ℕ) (room tokens : List Token) (lexed : Lexed) : Type 0 where
  pub found : List Item
  pub bounds : List Boundary
  pub run : IsRun d text found bounds
  pub tokens-are : tokens ≡ filled put_token (drop first found) room
  pub lexed-is : lexed ≡ lexed_by found bounds

-- the pieces are those of the one run, as many as there is room for
pub record ArePiecesOf (d : Definition) (text : List ℕ) (room pieces : List Piece) (lexed : Lexed) : Type 0 where
  pub found : List Item
  pub bounds : List Boundary
  pub run : IsRun d text found bounds
  pub cuts : List cut.Piece
  pub cuts-are : ArePieces d text bounds cuts
  pub pieces-are : pieces ≡ filled (λ p _. piece_by p) cuts room
  pub lexed-is : lexed ≡ record (lexed_by found bounds) { count = length cuts }

-- the same of the pieces that have a byte in from..to
pub record ArePartOf (d : Definition) (text : List ℕ) (from to : ℕ) (room pieces : List Piece) (lexed : Lexed) : Type 0 where
  pub found : List Item
  pub bounds : List Boundary
  pub run : IsRun d text found bounds
  pub cuts : List cut.Piece
  pub cuts-are : ArePiecesIn d text bounds from to cuts
  pub pieces-are : pieces ≡ filled (λ p _. piece_by p) cuts room
  pub lexed-is : lexed ≡ record (lexed_by found bounds) { count = length cuts }

-- the bytes of the document gave way to these
abbrev pub WasEdited : ℕ → ℕ → List ℕ → Option (Definition × List ℕ) → Option (Definition × List ℕ) → Type 0
WasEdited from to put None new = ⊥
WasEdited from to put (Some d) new = new ≡ Some (d.0, edited d.1 (span from to) put)

-- the report of the error that stopped the run
pub record IsStopReport (states : List start.StartState) (d : Definition) (file text shown : List ℕ) : Type 0 where
  pub found : List Item
  pub bounds : List Boundary
  pub run : IsRun d text found bounds
  pub error : LRLexError
  pub last : slice_get found (length found - 1) ≡ Some (Error (span_start (lex_error_span error)) (span_end (lex_error_span error)) (error_state error))
  pub shown-is : shown ≡ stop_text file text error (name_in states error)

-- the run comes to the end of the text
pub record IsUnstopped (d : Definition) (text : List ℕ) : Type 0 where
  pub found : List Item
  pub bounds : List Boundary
  pub run : IsRun d text found bounds
  pub whole : (lexed_by found bounds).stopped ≡ false
