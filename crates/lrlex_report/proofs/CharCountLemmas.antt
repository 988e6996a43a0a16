-- How many characters are before a place.
use Rattle.std.proofs.Common.{◌≡◌, ℕ, ◌+◌, ◌-◌, ◌*◌, ◌/◌, ◌<◌, ◌≤◌, List, [], ◌∷◌, ◌++◌, length, take, drop, get_or, not, sym, ap, ◌∙◌, arith}
use Rattle.std.specs.Prelude.{IsUtf8, IsCharBoundary, slice_range}
use Rattle.std.specs.List.{after_last, suffix_len}
use Rattle.std.specs.Str.{chars}
use Rattle.std.proofs.Math.Nat.{div-mul-le_self}
use Rattle.std.proofs.Math.Seq.{take-add}
use Rattle.std.proofs.lemmas.Nat.{le-div}
use Rattle.std.proofs.lemmas.List.{length-append, length-take-le, length-drop, drop-take}
use Rattle.std.proofs.lemmas.List.FromFn.{length-map-range_with_len, get_or-map-range_with_len}
use Rattle.std.proofs.lemmas.Str.{IsUtf8-take, chars-append, chars-nil, encodes-chars, length-le-encodes}
use Rattle.lrlex_base.specs.Places.{is_newline, column_of}
use Rattle.lrlex_report.specs.CharCounts.{chars_before, char_counts}
use Rattle.lrlex_report.specs.PlaceTexts.{nearest, line_at}

-- none before the text's start
pub before_start : (text : List ℕ) → 0 ≡ chars_before text 0
before_start [] = sym (ap length chars-nil)
before_start (x ∷ text) = sym (ap length chars-nil)

-- no more than the bytes before the place
pub before_most : (text : List ℕ) (at : ℕ) → IsUtf8 text → IsCharBoundary text at → chars_before text at ≤ at
before_most text at u fits =
    let front = take at text in
    omega (arith, length-le-encodes (chars front), ap length (encodes-chars front (IsUtf8-take text at u fits)), length-take-le at text fits.0)

longer : (text : List ℕ) (from at : ℕ) → from ≤ at → take at text ≡ take from text ++ slice_range text from at
longer text from at h =
    let whole : at ≡ from + (at - from) = omega (arith, h) in
    ap (λ n. take n text) whole ∙ take-add from (at - from) text

-- those before another place, and those between
before_more : (text : List ℕ) (from at : ℕ) → IsUtf8 text → IsCharBoundary text from → from ≤ at → chars_before text at ≡ chars_before text from + length (chars (slice_range text from at))
before_more text from at u fits h =
    ap (λ xs. length (chars xs)) (longer text from at h) ∙ ap length (chars-append (take from text) (slice_range text from at) (IsUtf8-take text from u fits))
    ∙ length-append (chars (take from text)) (chars (slice_range text from at))

-- what was counted before a place, and what is counted from there
pub counted : (text : List ℕ) (from at before count : ℕ) (part : List ℕ) → IsUtf8 text → IsCharBoundary text from → from ≤ at → before ≡ chars_before text from → part ≡ slice_range text from at → count ≡ length (chars part)
    → before + count ≡ chars_before text at
counted text from at before count part u fits h e p q = omega (arith, e, q, ap (λ xs. length (chars xs)) p, before_more text from at u fits h)

-- the count that is kept for the bytes from a place on
pub kept_within : (text : List ℕ) (at : ℕ) → at ≤ length text → at / 128 < length text / 128 + 1
kept_within text at h = omega (arith, le-div (at / 128) (length text) 128 (omega arith) (omega (arith, h, div-mul-le_self at 128)))

pub kept_is : (text : List ℕ) (at : ℕ) → at ≤ length text → get_or (char_counts text) (at / 128) 0 ≡ chars_before text (nearest text (at / 128 * 128))
kept_is text at h = get_or-map-range_with_len (λ k. chars_before text (nearest text (k * 128))) 0 (length text / 128 + 1) (at / 128) (at / 128) 0 (kept_within text at h) (omega arith)

pub kept_length : (text : List ℕ) → length (char_counts text) ≡ length text / 128 + 1
kept_length text = length-map-range_with_len (λ k. chars_before text (nearest text (k * 128))) 0 (length text / 128 + 1)

-- what stands in the line before a place
line_front : (text : List ℕ) (at : ℕ) → at ≤ length text → slice_range text (line_at text at).start at ≡ after_last is_newline (take at text)
line_front text at h =
    let front = take at text in
    let n = suffix_len (λ x. not (is_newline x)) front in
    let begin = (line_at text at).start in
    let long : length front ≡ at = length-take-le at text h in
    let same : begin ≡ length front - n = omega (arith, long, length-drop (length front - n) front) in
    let whole : at ≡ begin + (at - begin) = omega (arith, same, long) in
    sym (ap (λ m. drop begin (take m text)) whole ∙ drop-take begin (at - begin) text) ∙ ap (λ m. drop m front) same

pub begin_within : (text : List ℕ) (at : ℕ) → (line_at text at).start ≤ at
begin_within text at = omega arith

-- the characters of the line before a place are those before it, but for those before the line
pub column_is : (text : List ℕ) (begin at : ℕ) → IsUtf8 text → IsCharBoundary text at → begin ≡ (line_at text at).start → IsCharBoundary text begin
    → (chars_before text begin ≤ chars_before text at) × (1 + (chars_before text at - chars_before text begin) ≡ column_of text at)
column_is text begin at u fits e b =
    let more = before_more text begin at u b (omega (arith, e, begin_within text at)) in
    let front : slice_range text begin at ≡ after_last is_newline (take at text) = ap (λ n. slice_range text n at) e ∙ line_front text at fits.0 in
    (omega (arith, more), omega (arith, more, ap (λ xs. length (chars xs)) front))
