-- What looks for winners in a text, and what it finds.
use Rattle.std.specs.Prelude.{◌≡◌, ℕ, ◌+◌, ◌-◌, ◌<◌, ◌≤◌, true, List, MatchOption, Some, length, drop, option_copied, slice_get, IsCharBoundary}
use Rattle.lrlex_rules.specs.Definition.{Definition}
use Rattle.lrlex_table.specs.Ahead.{begin_at, match_at}
use Rattle.lrlex_table.specs.Chain.{end_of, row_of}
use Rattle.lrlex_table.specs.declared.marks.Mark.{Mark}
use Rattle.lrlex_rules.specs.Active.{active_count, rule_at}
use Rattle.lrlex_rules.specs.Kinds.{IsPlain}
use Rattle.lrlex.specs.Lookahead.{IsDecided}
use Rattle.lrlex_rules.specs.Tiling.{IsStuck, Wins}
use Rattle.lrlex_rules.specs.Matchers.{AreMatchers}
use Rattle.lrlex_definition.specs.RowKinds.{own_kind}
use Rattle.lrlex_definition.specs.RuleTable.{definition_by, untabled_count}
use Rattle.lrlex_definition.specs.declared.row_kinds.RowKind.{RowKind}
use Rattle.lrlex_definition.specs.declared.rule_table.RuleTable.{RuleTable}
use Rattle.lrlex.specs.declared.lexing.winner.Searcher.{Searcher}
use Rattle.lrlex.specs.declared.lexing.winner.Scan.{Scan}
use Rattle.lrlex.specs.declared.lexing.winner.Found.{Found}
use Rattle.lrlex.specs.declared.lexing.winner.Tile.{Tile}

-- this looks for winners in the text by the definition: its matchers are those of the rules, and its dead ends are of the
-- definition's tables and chain, and of the text
pub record IsSearcherOf {S : Type 0} (d : RuleTable S) (input : List ℕ) (s : Searcher) : Type 0 where
  pub matchers : AreMatchers d.rules.items s.matchers.items
  pub lists : s.ends.lists.now ≡ d.tables.items
  pub text : s.ends.text.now ≡ input
  pub chain : option_copied s.ends.chain ≡ slice_get d.chains.items 0

-- what wins in state q at the text's beginning, and that the first bytes, so many of them, decide it
pub record IsScanOf (d : Definition) (q : ℕ) (text : List ℕ) (s : Scan) : Type 0 where
  pub winner : MatchOption s.winner (IsStuck d q text) (λ t. Wins d q text t.rule t.len)
  pub decided : IsDecided d q text s.reach

-- This tile was found ahead at a place of the text, in state q: it wins there, the byte behind it decides it, and no rule is searched for.
pub record IsFoundAt {S : Type 0} (number : S → ℕ) (d : RuleTable S) (q : ℕ) (input : List ℕ) (place : ℕ) (t : Tile) : Type 0 where
  pub wins : Wins (definition_by number d) q (drop place input) t.rule t.len
  pub decided : IsDecided (definition_by number d) q (drop place input) (t.len + 1)
  pub cuts : IsCharBoundary (drop place input) t.len
  pub rule : t.rule < length d.rules.items
  pub within : place + t.len < length input
  pub tabled : untabled_count d q ≡ 0

-- the tile that was found ahead at the place
abbrev pub tile_of : {S : Type 0} → ℕ → Found S → Tile
tile_of place f = record { rule = f.kind.rule; len = f.next.end - place }

-- each of these tiles that ends in a row of this list was found ahead, from where it begins, and what is plain of it is so of its rule
abbrev pub AreFoundAt : {S : Type 0} → (S → ℕ) → RuleTable S → (q list : ℕ) → (input : List ℕ) → (from place : ℕ) → List Mark → Type 0
AreFoundAt number d q list input from place marks =
    (k : ℕ) (w : RowKind _) → k < length marks → slice_get d.row_kinds.items (row_of marks k) ≡ Some w → w.list ≡ list →
    (begin_at from place marks k < from + end_of marks k)
    × IsFoundAt number d q input (begin_at from place marks k) (tile_of (begin_at from place marks k) (record { kind = w; next = match_at from marks k }))
    × (w.plain ≡ true → IsPlain number (own_kind w).id (rule_at (definition_by number d) w.rule))

-- the searches of one look in state q: one for each active rule that the state's tables leave out
pub record HasAsked {S : Type 0} (number : S → ℕ) (d : RuleTable S) (q before after : ℕ) : Type 0 where
  pub counted : after ≤ before + active_count (definition_by number d) q
  pub exact : after ≡ before + untabled_count d q
