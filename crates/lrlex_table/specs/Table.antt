-- What a table says of its patterns: which of them has the longest match.
use Rattle.std.specs.Prelude.{◌≡◌, ◌≢◌, ℕ, ◌+◌, ◌-◌, ◌*◌, ◌<◌, ◌≤◌, Bool, true, false, List, All, [], ◌∷◌, length, Option, Some, None, IsUtf8, IsCharBoundary, take, slice_get, slice_index_or}
use Rattle.regex_hir.specs.Looks.{holds}
use Rattle.regex_nfa.specs.declared.nfa.Nfa.{Nfa}
use Rattle.regex_dfa.specs.Search.{end_from}
use Rattle.regex_dfa.specs.Moves.{MovesForward}
use Rattle.regex_dfa.specs.Links.{Links, best}
use Rattle.regex.specs.Patterns.{Re, empty}
use Rattle.lrlex_matching.specs.Matching.{match_length}
use Rattle.lrlex_table.specs.Cell.{rows_in}
use Rattle.lrlex_table.specs.declared.table.Table.{Table}

-- where a row goes on a byte, and at the end of the text
abbrev pub next_of : List ℕ → ℕ → Option ℕ → ℕ
next_of next r None = 0
next_of next r (Some b) = slice_index_or next (r * 256 + b) 0

-- the first of the patterns below n that matches
abbrev pub IsFirstMatch : ℕ → (ℕ → Bool) → Option ℕ → Type 0
IsFirstMatch n m None = (k : ℕ) → k < n → m k ≡ false
IsFirstMatch n m (Some w) = (w < n) × (m w ≡ true) × ((k : ℕ) → k < w → m k ≡ false)

-- the start's row is that of position 0, and of no other
abbrev pub IsAt : ℕ → ℕ → ℕ → Type 0
IsAt start r j = (r ≡ start → j ≡ 0) × (j ≡ 0 → r ≡ start)

-- in this text, each row stands for the threads of n patterns
pub record IsTableOn (next : List ℕ) (wins : List (Option ℕ)) (start : ℕ) (n : ℕ) (nfa : ℕ → Nfa) (threads : ℕ → ℕ → List ℕ) (matched : ℕ → ℕ → Bool) (hay : List ℕ) : Type 0 where
  pub dead : (k : ℕ) → threads 0 k ≡ []
  pub wins_are : (r : ℕ) → IsFirstMatch n (matched r) (slice_index_or wins r None)
  pub fresh : (r b : ℕ) → next_of next r (Some b) ≢ start
  pub moves : (j r k : ℕ) → k < n → j ≤ length hay → IsAt start r j →
      MovesForward (nfa k) (λ l. holds l hay j) (threads r k) (slice_get hay j) (threads (next_of next r (slice_get hay j)) k) (matched r k)

-- Pattern w has the greatest of these numbers, and no earlier pattern has it. All are at most j.
pub record Leads (n : ℕ) (last : ℕ → ℕ) (best w j : ℕ) : Type 0 where
  pub most : (k : ℕ) → k < n → last k ≤ best
  pub is : 0 < best → (w < n) × (last w ≡ best)
  pub first : 0 < best → (k : ℕ) → k < w → last k < best
  pub past : best ≤ j

-- Each pattern's match from the start ends where its number says: one more than the end, or 0. The greatest is that of the
-- answer. All this is so in each text with the same first `reach` bytes.
abbrev pub EndsAsTable : List ℕ → List (Option ℕ) → ℕ → List ℕ → ℕ → ℕ → ℕ → Type 0
EndsAsTable next wins start hay reach best w =
    (n : ℕ) (nfa : ℕ → Nfa) (threads : ℕ → ℕ → List ℕ) (matched : ℕ → ℕ → Bool) → IsTableOn next wins start n nfa threads matched hay →
    (last : ℕ → ℕ) × Leads n last best w reach
    × ((other : List ℕ) → IsTableOn next wins start n nfa threads matched other → take reach other ≡ take reach hay →
    (k : ℕ) → k < n → Links (nfa k) other 0 (threads start k) 0 reach [] (last k))

-- The longest match has n bytes and ends in this row, whose pattern wins. Where none has a byte, no pattern wins there.
pub record EndsInRow (next : List ℕ) (wins : List (Option ℕ)) (start : ℕ) (hay : List ℕ) (reach n row : ℕ) : Type 0 where
  pub top : ℕ
  pub pattern : ℕ
  pub ends : EndsAsTable next wins start hay reach top pattern
  pub bytes : n ≡ top - 1
  pub none : n ≡ 0 → slice_index_or wins row None ≡ None
  pub some : 0 < n → slice_index_or wins row None ≡ Some pattern

-- the first match of the NFA from its start, at the beginning of a text, is as long as that of the pattern
unfoldable pub Measures : Nfa → Re → Type 0
Measures nfa re =
    (hay : List ℕ) → All (λ b. b < 256) hay → IsUtf8 hay → (last : ℕ) →
    end_from nfa hay (length hay) nfa.start 0 ≡ best last → match_length re hay ≡ last - 1

-- the pattern at place k
abbrev pub pattern_at : List Re → ℕ → Re
pattern_at ps k = slice_index_or ps k empty

-- on each text of bytes, the rows stand for the threads of NFAs that measure as the patterns do
pub record Serves (next : List ℕ) (wins : List (Option ℕ)) (start : ℕ) (ps : List Re) : Type 0 where
  pub nfa : ℕ → Nfa
  pub threads : ℕ → ℕ → List ℕ
  pub matched : ℕ → ℕ → Bool
  pub measures : (k : ℕ) → k < length ps → Measures (nfa k) (pattern_at ps k)
  pub begins : (k : ℕ) → k < length ps → threads start k ≡ (nfa k).start ∷ []
  pub table : (hay : List ℕ) → All (λ b. b < 256) hay → IsTableOn next wins start (length ps) nfa threads matched hay

-- for each row and byte the next row
abbrev pub next_rows : Table → List ℕ
next_rows t = rows_in t.cells.items

-- the longest match of the table's patterns has n bytes and ends in this row
abbrev pub EndsInRowOf : Table → List ℕ → ℕ → ℕ → ℕ → Type 0
EndsInRowOf t = EndsInRow (next_rows t) t.wins.items t.start

-- the table is one of these patterns
abbrev pub IsTableOf : List Re → Table → Type 0
IsTableOf ps t = Serves (next_rows t) t.wins.items t.start ps

-- Of the patterns, the one at place k matches n bytes of the text, up to a boundary between characters, none matches
-- more, and no earlier one as many.
pub record IsLongest (ps : List Re) (text : List ℕ) (k n : ℕ) : Type 0 where
  pub some : 0 < n
  pub within : k < length ps
  pub takes : match_length (pattern_at ps k) text ≡ n
  pub greatest : (j : ℕ) → j < length ps → match_length (pattern_at ps j) text ≤ n
  pub earliest : (j : ℕ) → j < k → match_length (pattern_at ps j) text < n
  pub cuts : IsCharBoundary text n

-- no pattern matches a byte of the text
abbrev pub NoneMatches : List Re → List ℕ → Type 0
NoneMatches ps text = (j : ℕ) → j < length ps → match_length (pattern_at ps j) text ≡ 0
