-- Changes of a text.
use Rattle.std.specs.Prelude.{ℕ, List, ◌++◌, take, drop}
use Rattle.lrlex_base.specs.Spans.{Span}

-- the old text with the bytes of a span replaced
abbrev pub edited : List ℕ → Span → List ℕ → List ℕ
edited old removed put = take removed.start old ++ (put ++ drop removed.end old)
