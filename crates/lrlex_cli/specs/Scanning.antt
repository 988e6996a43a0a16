-- What a first pass over a text has found, and what a second one has written of it.
use Rattle.std.specs.Prelude.{◌≡◌, ℕ, ◌-◌, Bool, List, [], ◌∷◌, ◌++◌, length, Option, Some, None, option_map, is_some, Result}
use Rattle.std.specs.List.{list_any}
use Rattle.lrlex_base.specs.Spans.{span_start, span_end}
use Rattle.lrlex_rules.specs.Definition.{Definition}
use Rattle.lrlex.specs.Boundaries.{Boundary}
use Rattle.lrlex.specs.Errors.{stop_text}
use Rattle.lrlex.specs.ItemLaws.{is_error}
use Rattle.lrlex.specs.Reach.{IsRun}
use Rattle.lrlex.specs.Scanner.{Scanned, at_front, left}
use Rattle.lrlex.specs.Tiling.{Tile, End, Item, Error, IsTiling, lexemes, lexeme_of}
use Rattle.lrlex.specs.declared.lexing.scanner.ScannedTile.{ScannedTile}
use Rattle.lrlex.specs.declared.lexing.scanner.ScanEnd.{ScanEnd}
use Rattle.lrlex.specs.declared.lexing.scanner.ScanEnd.TheVariants.{Done, NoMatch, NoId, NoTarget, NoState}
use Rattle.lrlex_cli.specs.Lines.{lines}
use Rattle.lrlex_cli.specs.Writing.{Writes}
use Rattle.lrlex_cli.specs.declared.scanning.FirstPass.{FirstPass}

-- the lexeme of a tile, if it gives one
abbrev pub lexeme_by : {S : Type 0} → (S → ℕ) → ScannedTile S → List Item
lexeme_by number x = lexeme_of (option_map number x.id) (span_start x.span) (span_end x.span - span_start x.span)

-- that of a tile that may be there
abbrev pub last_lexeme : {S : Type 0} → (S → ℕ) → Option (ScannedTile S) → List Item
last_lexeme number None = []
last_lexeme number (Some x) = lexeme_by number x

-- the tile that comes with an end: that whose target is no start state
abbrev pub last_tile : {S : Type 0} → ScanEnd S → Option (ScannedTile S)
last_tile Done = None
last_tile (NoMatch q) = None
last_tile (NoId k) = None
last_tile (NoTarget x) = Some x
last_tile NoState = None

-- the place of the error that comes with an end: that at which the scanner stands
abbrev pub error_place : {S : Type 0} → ScanEnd S → ℕ → Option ℕ
error_place Done place = None
error_place (NoMatch q) place = Some place
error_place (NoId k) place = Some place
error_place (NoTarget x) place = Some place
error_place NoState place = Some place

-- these are the error at that place, or none
abbrev pub IsErrorAt : Option ℕ → List Item → Type 0
IsErrorAt None xs = xs ≡ []
IsErrorAt (Some place) xs = (state : Option ℕ) × (xs ≡ Error place place state ∷ [])

-- its line
unfoldable pub stop_line : Option ℕ → List ℕ
stop_line None = []
stop_line (Some place) = stop_text place ++ 10 ∷ []

-- From where it stands, the tiles that a scanner takes give these lexemes.
pub record Finds (s : Scanned) (found : List Item) : Type 0 where
  pub cut : List Tile
  pub end : End
  pub tiling : IsTiling s.definition (left s) s.stack cut end
  pub gives : found ≡ lexemes s.definition s.place cut

-- It has counted the lexemes that come before the end. With what comes with the end they are the items of a run.
pub record IsFirstPass {S : Type 0} (number : S → ℕ) (d : Definition) (text : List ℕ) (pass : FirstPass S) : Type 0 where
  pub found : List Item
  pub error : List Item
  pub bounds : List Boundary
  pub finds : (most : ℕ) → Finds (at_front d text most) found
  pub count : pass.lexemes ≡ length found
  pub stop : IsErrorAt pass.error error
  pub run : IsRun d text (found ++ (last_lexeme number pass.last ++ error)) bounds
  pub stops : list_any is_error (found ++ (last_lexeme number pass.last ++ error)) ≡ is_some pass.error

-- The lines of a run's items were written, as far as the result says; `stopped` is whether an error is among them.
abbrev pub WritesRun : {T E : Type 0} → Definition → List ℕ → Bool → Option (List ℕ) → Option (List ℕ) → Result T E → Type 0
WritesRun d text stopped old new r = (found : List Item) × (bounds : List Boundary) × IsRun d text found bounds
    × (list_any is_error found ≡ stopped) × Writes old new r (lines d.rules text found)
