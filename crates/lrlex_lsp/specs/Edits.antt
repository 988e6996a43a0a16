-- What a change of a document does to its text.
use Rattle.std.specs.Prelude.{ℕ, ◌≡◌, ◌⊎◌, List, Option, Some, length, codes, option_and_then, MatchOption}
use Rattle.serde_json.specs.Data.{Data, null}
use Rattle.serde_json.specs.Find.{get, as_str, as_number, as_u64}
use Rattle.lrlex.specs.Nearest.{FitsAt}
use Rattle.lrlex.specs.Words.{edited, IsLastUpTo}
use Rattle.lrlex_base.specs.Spans.{span}
use Rattle.lrlex_positions.specs.declared.encoding.PositionEncoding.{PositionEncoding}

-- the number that a value is
abbrev pub number_of : Data → Option ℕ
number_of d = option_and_then as_u64 (as_number d)

-- the value tells this position: its line, and its column
pub record IsPosition (d : Data) (position : ℕ × ℕ) : Type 0 where
  pub line : option_and_then number_of (get (codes "line") d) ≡ Some position.0
  pub column : option_and_then number_of (get (codes "character") d) ≡ Some position.1

-- the value tells a range, from the first position to the second
pub record IsRange (d : Data) (start end : ℕ × ℕ) : Type 0 where
  pub start_is : (s : Data) × (get (codes "start") d ≡ Some s) × IsPosition s start
  pub end_is : (e : Data) × (get (codes "end") d ≡ Some e) × IsPosition e end

-- all bytes of the text
abbrev pub AreAll : (text : List ℕ) (from to : ℕ) → Type 0
AreAll text from to = (from ≡ 0) × (to ≡ length text)

-- the bytes between the places of a range's positions
abbrev pub AreBetween : PositionEncoding → (text : List ℕ) (range : Data) (from to : ℕ) → Type 0
AreBetween encoding text range from to =
    (start : ℕ × ℕ) × (end : ℕ × ℕ) × IsRange range start end × IsLastUpTo encoding text start from × IsLastUpTo encoding text end to

-- the bytes that a change names: those of its range, or all where it has none
abbrev pub AreBytesOf : PositionEncoding → (text : List ℕ) (change : Data) (from to : ℕ) → Type 0
AreBytesOf encoding text change from to =
    MatchOption (get (codes "range") change) (AreAll text from to) (λ range. ((range ≡ null) × AreAll text from to) ⊎ AreBetween encoding text range from to)

-- the bytes of the old text that the change names, which fit it, have given way to the text that it names
abbrev pub WasChanged : PositionEncoding → (old new : List ℕ) → (change : Data) → Type 0
WasChanged encoding old new change =
    (from : ℕ) × (to : ℕ) × (put : List ℕ) × FitsAt old from to × AreBytesOf encoding old change from to
    × (option_and_then as_str (get (codes "text") change) ≡ Some put)
    × (new ≡ edited old (span from to) put)
