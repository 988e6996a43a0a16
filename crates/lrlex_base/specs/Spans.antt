-- Parts of a text, by the offsets of their two ends. An offset counts bytes.
use Rattle.std.specs.Prelude.{ℕ, Bool, List, ◌==◌, ◌&&◌, IsCharBoundary}
use Rattle.lrlex_base.specs.declared.spans.Span.{Span as TheSpan}

pub record Span : Type 0 where
  pub start : ℕ
  pub end : ℕ

abbrev pub span : ℕ → ℕ → Span
span start end = record { start = start; end = end }

-- the empty span at a place
abbrev pub at_place : ℕ → Span
at_place x = span x x

abbrev pub same_span : Span → Span → Bool
same_span a b = (a.start == b.start) && (a.end == b.end)

-- what a span of the program says
abbrev pub as_span : TheSpan → Span
as_span s = span s.start s.end

abbrev pub span_start : TheSpan → ℕ
span_start s = s.start

abbrev pub span_end : TheSpan → ℕ
span_end s = s.end

-- both ends are in range and on character boundaries
abbrev pub Fits : List ℕ → TheSpan → Type 0
Fits text s = IsCharBoundary text s.start × IsCharBoundary text s.end
