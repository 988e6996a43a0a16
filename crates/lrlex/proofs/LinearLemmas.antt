-- Lexing in linear time.
use Rattle.std.proofs.Common.{◌≡◌, ℕ, ◌+◌, ◌-◌, ◌<◌, ◌≤◌, max, Bool, true, List, length, drop, Option, Some, None, Result, Ok, Err, IfOk, IfSome, IsCharBoundary, vec_len, sym, arith, length-drop}
use Rattle.std.proofs.Props.{props}
use Rattle.std.proofs.Math.Nat.{mul-le-mul_left}
use Rattle.std.proofs.Math.Logic.{∥∥₁_elim}
use Rattle.lrlex_table.specs.Linear.{HasWorkedTo, count_of_rows, most_cells}
use Rattle.lrlex_table.proofs.LinearLemmas.{linear_later}
use Rattle.lrlex_table.specs.declared.dead_ends.DeadEnds.{DeadEnds}
use Rattle.lrlex_definition.specs.StateTables.{most_tables}
use Rattle.lrlex_boundaries.specs.Boundaries.{Boundary, boundary_at}
use Rattle.lrlex.specs.Scanner.{IsSought, sought_to}
use Rattle.lrlex.specs.Work.{HasGoneOn, HasLinearRecut, HasWorked, IsLinearIn, won_bytes}
use Rattle.lrlex_definition.specs.declared.rule_table.RuleTable.{RuleTable}
use Rattle.lrlex.specs.declared.editing.changes.Change.{Change}
use Rattle.lrlex.specs.declared.lexing.winner.Tile.{Tile}

le_prop : (a b : ℕ) → IsProp (a ≤ b)
le_prop a b = Prim.hlevel props

-- a look up to a place, for whoever knows that its tables are right, and so up to a later one
pub worked_past : {A : Type 0} (tables first place later : ℕ) (e : DeadEnds) → ∥ A ∥₁ → (A → HasWorkedTo tables first place e) → place ≤ later → HasWorkedTo tables first later e
worked_past {A} tables first place later e known worked le =
    let up : A → HasWorkedTo tables first later e = λ a. linear_later tables first place later e (worked a) le in
    record {
      onward = ∥∥₁_elim known (le_prop _ _) (λ a. (up a).onward);
      walks = λ kept. ∥∥₁_elim known (le_prop _ _) (λ a. (up a).walks kept);
      ahead = ∥∥₁_elim known (le_prop _ _) (λ a. (up a).ahead);
      near = ∥∥₁_elim known (le_prop _ _) (λ a. (up a).near);
    }

-- what wins at a place in the text ends in it
pub won_within : (B : Tile → Type 0) (winner : Option Tile) (text : List ℕ) (place : ℕ) → place < length text → IfSome winner (λ t. IsCharBoundary (drop place text) t.len × B t) →
    place + max 1 (won_bytes winner) ≤ length text
won_within B None text place inside cuts = omega (arith, inside)
won_within B (Some t) text place inside cuts = omega (arith, inside, cuts.0.0, length-drop place text)

-- lexing went on past what won, or ended there
pub gone_on : {S E : Type 0} (d : RuleTable S) (text : List ℕ) (old new : DeadEnds) (place p here : ℕ) (r : Result Bool E) → ((first : ℕ) → HasWorked d first place old → HasWorked d first p new) → p ≤ length text →
    IfOk r (λ on. on ≡ true → here ≡ p) → IfOk r (λ on. (first : ℕ) → HasWorked d first place old → HasGoneOn d text first here on new)
gone_on d text old new place p here (Ok on) worked inside moved = λ first was. (p, inside, λ is. sym (moved is), worked first was)
gone_on d text old new place p here (Err e) worked inside moved = tt

more_cells : (tables bytes more rows len : ℕ) → bytes ≤ more → most_cells tables bytes rows len ≤ most_cells tables more rows len
more_cells tables bytes more rows len le = omega (arith, le, mul-le-mul_left {m = bytes} {n = more} tables le)

-- what is linear in so many bytes is linear in more
pub linear_more : {S : Type 0} (d : RuleTable S) (text : List ℕ) (bytes more : ℕ) (looked : Option ℕ) → bytes ≤ more → IsLinearIn d text bytes looked → IsLinearIn d text more looked
linear_more d text bytes more None le is = is
linear_more d text bytes more (Some n) le is = omega (arith, is, more_cells (most_tables d.tables.items) bytes more (count_of_rows d.tables.items) (length text) le)

-- what is linear from a place up to another is linear in the whole text
pub linear_in_all : {S : Type 0} (d : RuleTable S) (text : List ℕ) (first place : ℕ) (looked : Option ℕ) → place ≤ length text → IsLinearIn d text (place - first) looked → IsLinearIn d text (length text) looked
linear_in_all d text first place looked le is = linear_more d text (place - first) (length text) looked (omega (arith, le)) is

-- and in the text from that place on
pub linear_to_end : {S : Type 0} (d : RuleTable S) (text : List ℕ) (first place : ℕ) (looked : Option ℕ) → place ≤ length text → IsLinearIn d text (place - first) looked → IsLinearIn d text (length text - first) looked
linear_to_end d text first place looked le is = linear_more d text (place - first) (length text - first) looked (omega (arith, le)) is

-- what is linear in what was cut anew is linear in the whole text
pub linear_again : {S : Type 0} (d : RuleTable S) (text : List ℕ) (bounds : List Boundary) (tiles : Change) (looked : Option ℕ) → HasLinearRecut d text bounds tiles looked → IsLinearIn d text (length text) looked
linear_again d text bounds tiles looked h = linear_more d text (length text - (boundary_at bounds tiles.first).place) (length text) looked (omega arith) h.ended

-- where no tile is cut no cell is looked at
pub no_recut : {S : Type 0} (d : RuleTable S) (text : List ℕ) (bounds : List Boundary) (tiles : Change) → HasLinearRecut d text bounds tiles (Some 0)
no_recut d text bounds tiles = record { met = λ _. omega arith; ended = omega arith }

-- a scanner that stands in its text has looked for winners within it
pub sought_within : {S : Type 0} (number : S → ℕ) (d : RuleTable S) (text : List ℕ) (place state : ℕ) (sought : Option (Option Tile)) → place ≤ length text → IfSome sought (IsSought number d text place state) →
    sought_to place sought ≤ length text
sought_within number d text place state None le is = le
sought_within number d text place state (Some winner) le is = won_within (λ t. t.rule < vec_len d.rules) winner text place is.inside is.tile
