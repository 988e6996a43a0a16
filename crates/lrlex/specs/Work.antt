-- How much looking for winners takes: it is linear in the text.
use Rattle.std.specs.Prelude.{◌≡◌, ℕ, ◌+◌, ◌-◌, ◌<◌, ◌≤◌, Bool, true, List, length, Option, IfSome, option_map, unwrap_or}
use Rattle.lrlex_table.specs.Linear.{HasWorkedTo, count_of_rows, most_cells}
use Rattle.lrlex_table.specs.declared.dead_ends.DeadEnds.{DeadEnds}
use Rattle.lrlex_boundaries.specs.Boundaries.{Boundary, boundary_at}
use Rattle.lrlex_definition.specs.StateTables.{most_tables}
use Rattle.lrlex.specs.declared.definition.non_streaming.LRNonStreamingLexerDef.{LRNonStreamingLexerDef}
use Rattle.lrlex_definition.specs.declared.rule_table.RuleTable.{RuleTable}
use Rattle.lrlex.specs.declared.editing.changes.Change.{Change}
use Rattle.lrlex.specs.declared.lexing.winner.Tile.{Tile}

-- how many bytes a winner takes, 0 where there is none
abbrev pub won_bytes : Option Tile → ℕ
won_bytes winner = unwrap_or (option_map (λ t. t.len) winner) 0

-- winners were looked for from the first place up to this one in linear time, by the tables of the definition
abbrev pub HasWorked : {S : Type 0} → RuleTable S → (first place : ℕ) → DeadEnds → Type 0
HasWorked d first place ends = HasWorkedTo (most_tables d.tables.items) first place ends

-- Lexing has gone on to the place, or has ended within the text, in linear time.
abbrev pub HasGoneOn : {S : Type 0} → RuleTable S → List ℕ → (first place : ℕ) → Bool → DeadEnds → Type 0
HasGoneOn d text first place on ends =
    (p : ℕ) × (p ≤ length text) × (on ≡ true → p ≡ place) × HasWorked d first p ends

-- A count of cells that were looked at for so many bytes of the text is linear, by the definition's tables: at most 390 for each
-- byte and each table that a state has, 192 for each row of a table and 64 bytes of the text, and what looking ahead takes.
-- Nothing is said where the count was lost.
abbrev pub IsLinearIn : {S : Type 0} → RuleTable S → List ℕ → (bytes : ℕ) → Option ℕ → Type 0
IsLinearIn d text bytes looked =
    IfSome looked (λ n. n ≤ most_cells (most_tables d.tables.items) bytes (count_of_rows d.tables.items) (length text))

-- how many cells of tables lexing a text by these rules looks at, at most, from wherever it begins
abbrev pub most_cells_by : {S : Type 0} → RuleTable S → List ℕ → ℕ
most_cells_by d text = most_cells (most_tables d.tables.items) (length text) (count_of_rows d.tables.items) (length text)

-- the same by a definition
abbrev pub most_cells_of : {L X S E : Type 0} → LRNonStreamingLexerDef L X S E → List ℕ → ℕ
most_cells_of d text = most_cells_by d.table text

-- a count of cells is linear in the text, by a definition
abbrev pub HasLinearWork : {L X S E : Type 0} → LRNonStreamingLexerDef L X S E → List ℕ → Option ℕ → Type 0
HasLinearWork d text looked = IsLinearIn d.table text (length text) looked

-- An edit's count of cells is linear in the bytes that it cut anew: those from the first tile that came up to the first behind them
-- that stayed, or up to the text's end where none did. The part of the dead ends stays that of the whole text.
pub record HasLinearRecut {S : Type 0} (d : RuleTable S) (text : List ℕ) (bounds : List Boundary) (tiles : Change) (looked : Option ℕ) : Type 0 where
  pub met : tiles.first + tiles.inserted < length bounds - 1
      → IsLinearIn d text ((boundary_at bounds (tiles.first + tiles.inserted)).place - (boundary_at bounds tiles.first).place) looked
  pub ended : IsLinearIn d text (length text - (boundary_at bounds tiles.first).place) looked
