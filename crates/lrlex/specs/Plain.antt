-- A run that takes tiles of plain rules, many at a time.
use Rattle.std.specs.Prelude.{◌≡◌, ℕ, zero, suc, ◌+◌, ◌-◌, ◌<◌, ◌≤◌, true, List, [], ◌∷◌, ◌++◌, length, Option, Some, option_map, replicate, slice_get, slice_range}
use Rattle.std.specs.Option.{option_and_then}
use Rattle.lrlex_base.specs.LexemeParts.{LexemeParts}
use Rattle.lrlex_boundaries.specs.Boundaries.{Boundary, last_entries}
use Rattle.lrlex_boundaries.specs.Entries.{plain}
use Rattle.lrlex_table.specs.Ahead.{begin_at}
use Rattle.lrlex_table.specs.Chain.{end_of, row_of}
use Rattle.lrlex_table.specs.declared.marks.Mark.{Mark}
use Rattle.lrlex.specs.Progress.{IsUnderWay, no_front}
use Rattle.lrlex_definition.specs.RowKinds.{own_kind}
use Rattle.lrlex.specs.Searcher.{IsSearcherOf}
use Rattle.lrlex.specs.Searches.{asks_by}
use Rattle.lrlex_rules.specs.Tiling.{Item, lexeme_of, top}
use Rattle.lrlex_definition.specs.RuleTable.{definition_by}
use Rattle.lrlex.specs.Work.{HasWorked}
use Rattle.lrlex_definition.specs.declared.row_kinds.RowKind.{RowKind}
use Rattle.lrlex_definition.specs.declared.rule_table.RuleTable.{RuleTable}
use Rattle.lrlex.specs.declared.lexing.step.Progress.{Progress}
use Rattle.lrlex.specs.declared.lexing.winner.Searcher.{Searcher}

-- a run from the text's front on stands at its place, and made as many searches as its boundaries ask for
pub record IsRunning {S X : Type 0} (number : S → ℕ) (seen : X → LexemeParts S) (d : RuleTable S) (text : List ℕ) (p : Progress X) : Type 0 where
  pub under_way : IsUnderWay (definition_by number d) number seen text no_front p
  pub exact : p.asked ≡ asks_by d text (slice_range p.boundaries 0 (length p.boundaries - 1))

-- such a run stands within the text, in state q, and looks for winners by this searcher
pub record IsRunningIn {S X : Type 0} (number : S → ℕ) (seen : X → LexemeParts S) (d : RuleTable S) (text : List ℕ) (q : ℕ) (s : Searcher) (p : Progress X) : Type 0 where
  pub running : IsRunning number seen d text p
  pub state : q ≡ top (plain p.stack.items)
  pub inside : p.place < length text
  pub searcher : IsSearcherOf d text s

-- It took tiles, or none, that leave it in state q, and looked for them in linear time.
pub record HasTakenMany {S X : Type 0} (number : S → ℕ) (seen : X → LexemeParts S) (d : RuleTable S) (text : List ℕ) (q : ℕ) (s s' : Searcher) (old new : Progress X) : Type 0 where
  pub at : IsRunningIn number seen d text q s' new
  pub onward : old.place ≤ new.place
  pub linear : (first : ℕ) → HasWorked d first old.place s.ends → HasWorked d first new.place s'.ends

-- the first of these tiles, so many, end in rows of this list whose rules are plain
abbrev pub AllArePlain : {S : Type 0} → List (RowKind S) → (list : ℕ) → List Mark → (count : ℕ) → Type 0
AllArePlain kinds list marks count =
    (k : ℕ) → k < count → (w : RowKind _) × (slice_get kinds (row_of marks k) ≡ Some w) × (w.list ≡ list) × (w.plain ≡ true)

-- the number of the id that the rule has which wins at this row, if it has one
abbrev pub id_at : {S : Type 0} → (S → ℕ) → List (RowKind S) → ℕ → Option ℕ
id_at number kinds row = option_and_then (λ w. option_map number (own_kind w).id) (slice_get kinds row)

-- the lexemes of the first of these tiles
abbrev pub lexemes_of : {S : Type 0} → (S → ℕ) → List (RowKind S) → (from place : ℕ) → List Mark → ℕ → List Item
lexemes_of number kinds from place marks zero = []
lexemes_of number kinds from place marks (suc k) =
    lexemes_of number kinds from place marks k
    ++ lexeme_of (id_at number kinds (row_of marks k)) (begin_at from place marks k) (from + end_of marks k - begin_at from place marks k)

-- the boundaries behind them, with this stack
abbrev pub boundaries_of : (from : ℕ) → List Mark → (stack : List (ℕ × ℕ)) → ℕ → List Boundary
boundaries_of from marks stack zero = []
boundaries_of from marks stack (suc k) = boundaries_of from marks stack k ++ record { place = from + end_of marks k; entries = stack } ∷ []

-- It entered a boundary behind each of the first of these tiles, with the same stack. Each looked at one byte past its end.
pub record HasEnteredAll {X : Type 0} (old new : Progress X) (from : ℕ) (marks : List Mark) (count : ℕ) : Type 0 where
  pub place : new.place ≡ begin_at from old.place marks count
  pub stack : new.stack.items ≡ old.stack.items
  pub items : new.items.items ≡ old.items.items
  pub asked : new.asked ≡ old.asked
  pub none : count ≡ 0 → new.lookahead ≡ old.lookahead
  pub some : 0 < count → new.lookahead ≡ 1
  pub ahead : new.ahead.items ≡ old.ahead.items ++ replicate count 1
  pub kept : new.boundaries ≡ old.boundaries ++ boundaries_of from marks (last_entries old.boundaries) count
