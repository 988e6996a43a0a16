-- Rules that never win, and what rules enter.
use Rattle.std.specs.Prelude.{◌≡◌, ◌≢◌, ℕ, ◌==◌, Bool, true, false, List, All, Vec, map}
use Rattle.std.specs.declared.alloc.Global.{Global}
use Rattle.regex_hir.specs.Text.{is_some_and}
use Rattle.lrlex_rules.specs.Definition.{Definition, Rule}
use Rattle.lrlex_rules.specs.declared.states.StartStateOperation.{StartStateOperation}
use Rattle.lrlex_rules.specs.declared.states.StartStateOperation.TheVariants.{Pop}
use Rattle.lrlex_table.specs.Reach.{IsText}
use Rattle.lrlex_table.specs.Never.{WinsNowhereIn}
use Rattle.lrlex_rules.specs.Active.{is_state}
use Rattle.lrlex_rules.specs.Tiling.{Wins, Tile, End, NoTarget}
use Rattle.lrlex_definition.specs.declared.rule_table.RuleTable.{RuleTable}
unfoldable pub use Rattle.lrlex_definition.specs.Somewhere.{is_active_somewhere}
pub use Rattle.lrlex_definition.specs.Somewhere.{is_asked_somewhere}

-- in no start state does the rule at place k win a text
abbrev pub NeverWinsAnywhere : Definition → ℕ → Type 0
NeverWinsAnywhere d k = (q : ℕ) → is_state d q ≡ true → (text : List ℕ) (n : ℕ) → IsText text → Wins d q text k n → ⊥

-- a rule with this target puts the state on top of the stack
abbrev pub puts : ℕ → ℕ × StartStateOperation → Bool
puts q (id, Pop) = false
puts q (id, _) = id == q

-- the rule enters the state
abbrev pub enters : ℕ → Rule → Bool
enters q r = is_some_and r.target (puts q)

-- the state isn't on the stack
abbrev pub LacksState : ℕ → List ℕ → Type 0
LacksState q stack = All (λ s. s ≢ q) stack

-- lexing doesn't end after a match of rule k
abbrev pub EndsByOther : ℕ → End → Type 0
EndsByOther k (NoTarget t) = t.rule ≢ k
EndsByOther k _ = Unit {0}

-- no tile is a match of rule k, and lexing doesn't end after one
abbrev pub HasNoTileOf : ℕ → List Tile → End → Type 0
HasNoTileOf k ts e = All (λ t. t.rule ≢ k) ts × EndsByOther k e

-- in each list of the rules that are active in a state, the rule at place k has a table, and wins at none of its rows
abbrev pub WinsAtNoRow : {S : Type 0} → RuleTable S → ℕ → Type 0
WinsAtNoRow t k = WinsNowhereIn (map (λ (v : Vec ℕ Global). v.items) t.lists.items) t.tables.items k
