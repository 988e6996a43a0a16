-- How a place of a text is shown: its file, line and column with a message, then its line with the line's number, then carets
-- under the place.
use Rattle.std.specs.Prelude.{ℕ, ◌-◌, ◌==◌, ◌&&◌, nat_lt, min, List, [], ◌∷◌, ◌++◌, length, take, replicate, slice_index, slice_range, codes, decimal, if◌then◌else◌}
use Rattle.std.specs.Str.{chars}
use Rattle.std.specs.Fmt.Cut.{floor_char_boundary}
use Rattle.lrlex_base.specs.Places.{line_of, column_of, whole_lines}
use Rattle.lrlex_base.specs.Spans.{Span, at_place}
use Rattle.lrlex_report.specs.Carets.{shown_line, most_of, shown_front, shown_rest, padding, carets}

-- the greatest character boundary of the text up to the number
abbrev pub nearest : List ℕ → ℕ → ℕ
nearest text n = if nat_lt n (length text) then floor_char_boundary text n else length text

-- the end of a line, before a carriage return that ends it
abbrev pub before_return : List ℕ → Span → ℕ
before_return text line =
    if nat_lt line.start line.end && (slice_index text (line.end - 1) == 13) then line.end - 1 else line.end

-- the line that a place is in, without its newline, and without a carriage return that ends it
abbrev pub line_at : List ℕ → ℕ → Span
line_at text at =
    let line = whole_lines text (at_place at) in
    record { start = line.start; end = before_return text line }

-- `FILE:L:C: MESSAGE`
abbrev pub heading : (file : List ℕ) (line column : ℕ) (message : List ℕ) → List ℕ
heading file line column message =
    file ++ 58 ∷ (decimal line ++ 58 ∷ (decimal column ++ (codes ": " ++ (message ++ 10 ∷ []))))

-- a line's number and what is shown of its characters
abbrev pub numbered : (line : ℕ) (shown : List ℕ) → List ℕ
numbered line shown = decimal line ++ (codes " | " ++ (shown_line shown ++ 10 ∷ []))

-- the line of carets: they are under `part`, and `front` is what is shown of the line before it
abbrev pub underlined : (line : ℕ) (front part : List ℕ) → List ℕ
underlined line front part =
    replicate (length (decimal line)) 32 ++ (codes " | " ++ (padding front ++ (carets part ++ 10 ∷ [])))

-- the line of a place, a long one in part, and carets from there up to another place, or to the end of what is shown if that
-- comes first
abbrev pub excerpt : (text : List ℕ) (at to : ℕ) → List ℕ
excerpt text at to =
    let line = line_at text at in
    let place = min at line.end in
    let most = most_of (chars (slice_range text line.start line.end)) in
    let front = shown_front most (chars (slice_range text line.start place)) in
    numbered (line_of text at) (front ++ shown_rest most (chars (slice_range text place line.end)))
    ++ underlined (line_of text at) front (take most (chars (slice_range text at (min to line.end))))

-- what is shown of a span with a message; a span end inside a character is moved back to the character's start, and one after
-- the text's end to that end
unfoldable pub place_text : (file text : List ℕ) → Span → (message : List ℕ) → List ℕ
place_text file text x message =
    let at = nearest text x.start in
    heading file (line_of text at) (column_of text at) message ++ excerpt text at (nearest text x.end)
