-- The reach: how many bytes of a text decide what the patterns match at its beginning.
use Rattle.std.specs.Prelude.{◌≡◌, ◌≢◌, ℕ, ◌+◌, ◌<◌, ◌≤◌, List, All, [], ◌∷◌, length, take, Some, IsUtf8}
use Rattle.regex.specs.Patterns.{Re}
use Rattle.lrlex_matching.specs.Matching.{match_length}
use Rattle.lrlex_table.specs.Table.{next_rows, next_of, pattern_at, IsLongest, NoneMatches}
use Rattle.lrlex_table.specs.declared.table.Table.{Table}

-- bytes, in UTF-8
pub record IsText (text : List ℕ) : Type 0 where
  pub bytes : All (λ b. b < 256) text
  pub utf8 : IsUtf8 text

-- The other text has the same first n bytes. Where the text has fewer than n, the two are equal: it ends where the other does.
abbrev pub BeginsAlike : ℕ → List ℕ → List ℕ → Type 0
BeginsAlike n text other = take n other ≡ take n text

-- The text's first `reach` bytes decide what the patterns match: in each text with the same first `reach` bytes each
-- pattern matches as many bytes, so that the same pattern wins with as many, or none does.
pub record IsDecidedBy (ps : List Re) (text : List ℕ) (reach : ℕ) : Type 0 where
  pub matches : (other : List ℕ) → IsText other → BeginsAlike reach text other →
      (k : ℕ) → k < length ps → match_length (pattern_at ps k) other ≡ match_length (pattern_at ps k) text
  pub wins : (other : List ℕ) → IsText other → BeginsAlike reach text other →
      (k n : ℕ) → IsLongest ps text k n → IsLongest ps other k n
  pub none : (other : List ℕ) → IsText other → BeginsAlike reach text other → NoneMatches ps text → NoneMatches ps other

-- where these bytes lead from a row
abbrev pub row_after : List ℕ → ℕ → List ℕ → ℕ
row_after next r [] = r
row_after next r (b ∷ bs) = row_after next (next_of next r (Some b)) bs

-- A walk through the table reads so many bytes: it ends at the first dead row, or where it sees the text's end, which counts
-- as one more.
pub record IsReach (t : Table) (text : List ℕ) (reach : ℕ) : Type 0 where
  pub within : reach ≤ length text + 1
  pub needed : (i : ℕ) → 0 < i → i < reach → row_after (next_rows t) t.start (take i text) ≢ 0
  pub enough : reach ≤ length text → row_after (next_rows t) t.start (take reach text) ≡ 0
