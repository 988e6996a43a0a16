-- Lines and columns of a document, as C asks for them.
use Rattle.std.specs.Prelude.{ℕ, ◌==◌, List, if◌then◌else◌}
use Rattle.std.specs.declared.option.Option.{Option}
use Rattle.std.specs.declared.option.Option.TheVariants.{None, Some}
use Rattle.lrlex_base.specs.Places.{place_of}
use Rattle.lrlex.specs.Nearest.{IsNearest}
use Rattle.lrlex_positions.specs.Lines.{IsNearestPlace}
use Rattle.lrlex_positions.specs.Positions.{position_of}
use Rattle.lrlex_positions.specs.declared.encoding.PositionEncoding.{PositionEncoding}
use Rattle.lrlex_positions.specs.declared.encoding.PositionEncoding.TheVariants.{Utf8, Utf16}
use Rattle.lrlex_handles.specs.Buffers.{place_by}
use Rattle.lrlex_handles.specs.declared.structs.Place.{Place}

-- the encoding of a number
abbrev pub encoding_by : ℕ → Option PositionEncoding
encoding_by n = if n == 0 then Some Utf8 else if n == 1 then Some Utf16 else None

-- a position by an encoding, or, without one, line and column as people count them
abbrev pub shown_at : Option PositionEncoding → (text : List ℕ) → ℕ → Place
shown_at None text at = place_by (place_of text at)
shown_at (Some encoding) text at = place_by (position_of encoding text at)

-- the place that is shown for a byte: by an encoding the nearest one that has a position
abbrev pub IsPlaceFor : Option PositionEncoding → (text : List ℕ) → (byte at : ℕ) → Type 0
IsPlaceFor None text byte at = IsNearest text byte at
IsPlaceFor (Some encoding) text byte at = IsNearestPlace text byte at
