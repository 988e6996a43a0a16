-- What is shown of bytes that are not UTF-8, and of a byte order mark.
use Rattle.std.specs.Prelude.{◌≡◌, ℕ, ◌==◌, ◌&&◌, true, List, [], ◌∷◌, ◌++◌, take, slice_index, codes, decimal, if◌then◌else◌}
use Rattle.std.specs.Fmt.{digits}
use Rattle.std.specs.Str.{IsValidUpTo}
use Rattle.lrlex_base.specs.Spans.{span}
use Rattle.lrlex_parser.specs.Text.{begins_with}
use Rattle.lrlex_report.specs.PlaceTexts.{place_text}

-- `not UTF-8, byte 0xFF at offset 17`
abbrev pub bad_byte : (byte offset : ℕ) → List ℕ
bad_byte byte offset = codes "not UTF-8, byte 0x" ++ (digits 16 true byte ++ (codes " at offset " ++ decimal offset))

-- the byte at an offset with the line up to it
abbrev pub bad_byte_text : (file bytes : List ℕ) (offset : ℕ) → List ℕ
bad_byte_text file bytes offset =
    place_text file (take offset bytes) (span offset offset) (bad_byte (slice_index bytes offset) offset)

-- what is shown of bytes that are not UTF-8: the bytes before the offset are UTF-8, and no longer prefix is
abbrev pub IsBadByteText : (file bytes shown : List ℕ) → Type 0
IsBadByteText file bytes shown = (offset : ℕ) × IsValidUpTo bytes offset × (shown ≡ bad_byte_text file bytes offset)

-- U+FEFF in UTF-8
abbrev pub byte_order_mark : List ℕ
byte_order_mark = 0xEF ∷ 0xBB ∷ 0xBF ∷ []

-- what a message at this place ends with: it names a byte order mark if there is one at this place
abbrev pub mark_note : (text : List ℕ) (at : ℕ) → List ℕ
mark_note text at =
    if (at == 0) && begins_with byte_order_mark text
    then codes ": the text begins with a byte order mark (U+FEFF)" else []
