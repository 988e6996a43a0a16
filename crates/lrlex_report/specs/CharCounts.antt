-- How many characters a text has before its places.
use Rattle.std.specs.Prelude.{ℕ, ◌+◌, ◌*◌, ◌/◌, List, length, map, take}
use Rattle.std.specs.List.{range_with_len}
use Rattle.std.specs.Str.{chars}
use Rattle.lrlex_report.specs.PlaceTexts.{nearest}

-- how many characters are before a place
abbrev pub chars_before : (text : List ℕ) (at : ℕ) → ℕ
chars_before text at = length (chars (take at text))

-- how many are before every 128th byte of the text, moved back to the start of its character
abbrev pub char_counts : List ℕ → List ℕ
char_counts text = map (λ k. chars_before text (nearest text (k * 128))) (range_with_len 0 (length text / 128 + 1))
